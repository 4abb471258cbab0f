-- A router that releases a message does so in the view, or nothing of the prefix changes.
use Rattle.std.proofs.Common.{refl, sym, ap, subst, ◌∙◌, arith, inl, inr, ◌≡◌, ℕ, zero, suc, ◌-◌, Bool, true, false, ◌&&◌, ◌==◌, nat_lt, if◌then◌else◌, List, [], ◌∷◌, ◌++◌, take, drop, Some, None, is_some, slice_get, option_map, eq-eqb, ne_eqb, append-nil, length-drop}
use Rattle.no_packet_loops.proofs.Common.{cases_eq, and_from, and_left, and_right, Prefix, prefix_eq, changed_at, opening_machine, Item, Held, End, A, B, Side, Link, Router, World, Network, other, side, machine_of, Place, session_at, changed_side, with_item, with_message, router_releasing, ripe_front, Some_injective, None_not_Some, slice_get-changed_at, LinkEnd, State, Reported, at_port, msg_of, held_as, heard, inbox_of, is_kept, kept, ripe_of, unripe_of, next_hop_at, view, lay, eqb_sym, Releases, Skips, SameLinks, SameCosts, SameMachines, SamePublished, arriving}
use Rattle.loop_freedom.specs.Network.{Release as NetRelease, Skip}
use Rattle.no_packet_loops.proofs.{Wiring.IsWired, Places.far, Places.far_laid, Places.topology}
use Rattle.no_packet_loops.specs.LinkEnds.{across}
use Rattle.no_packet_loops.proofs.View.{heard-append, on_link-there, on_link-hit, on_link-same, on_router-there, on_router-miss, on_router-same}
use Rattle.no_packet_loops.proofs.Kept.{ends, RouterKept, WorldKept, StepKept, with_links, with_router, changed_side-ends, changed_beside, changed_here, up_beside, session_beside, other_end}

-- ---- the front of what a router holds

-- the oldest message that the router holds is h, and it is ripe
pub record Front (r : Router) (h : Held) : Type 0 where
  pub count : ℕ
  pub rest : List Held
  pub ripe_is : (r.gate).ripe ≡ suc count
  pub held_is : (r.gate).held ≡ h ∷ rest

-- a message that the router releases next is the oldest that it holds, and ripe
pub front_of : (r : Router) (h : Held) → ripe_front r ≡ Some h → Front r h
front_of r h e = by_ripe (r.gate).ripe (r.gate).held refl refl e
  where
    by_ripe : (m : ℕ) (xs : List Held) → (r.gate).ripe ≡ m → (r.gate).held ≡ xs → (if nat_lt 0 m then slice_get xs 0 else None) ≡ Some h → Front r h
    by_ripe zero xs a b f = absurd (None_not_Some f)
    by_ripe (suc m) [] a b f = absurd (None_not_Some (by_none (nat_lt 0 (suc m)) f))
      where
        by_none : (b : Bool) → (if b then None else None) ≡ Some h → None ≡ Some h
        by_none true f = f
        by_none false f = f
    by_ripe (suc m) (x ∷ xs) a b f = record { count = m; rest = xs; ripe_is = a; held_is = b ∙ ap (λ (y : Held). y ∷ xs) (by_test (nat_lt 0 (suc m)) f) }
      where
        by_test : (b : Bool) → (if b then Some x else None) ≡ Some h → x ≡ h
        by_test true f = Some_injective f
        by_test false f = absurd (None_not_Some f)

module _ (r : Router) (h : Held) (F : Front r h) where
  -- the router without its oldest message
  abbrev left : Router
  left = router_releasing r

  -- one fewer may be released
  fewer : (r.gate).ripe - 1 ≡ F.count
  fewer = (let e = F.ripe_is in omega (arith, e))

  -- what might be released is the oldest message, and then what may be released after
  pub ripe_front_is : ripe_of r ≡ h ∷ ripe_of left
  ripe_front_is = (λ z. take (F.ripe_is z) (F.held_is z)) ∙ ap (λ xs. h ∷ xs) (sym (λ z. take (fewer z) (drop 1 (F.held_is z))))

  -- what may not be released yet stays
  pub unripe_left : unripe_of left ≡ unripe_of r
  unripe_left = (λ z. drop (fewer z) (drop 1 (F.held_is z))) ∙ sym (λ z. drop (F.ripe_is z) (F.held_is z))

-- where nothing is kept of a list, nothing is kept of it without its first message
kept_tail : (p : Prefix) (j : ℕ) (xs : List Held) → kept p j xs ≡ [] → kept p j (drop 1 xs) ≡ []
kept_tail p j [] e = refl
kept_tail p j (x ∷ xs) e = by_kept (is_kept p j x) e
  where
    by_kept : (b : Bool) → (if b then held_as x ∷ kept p j xs else kept p j xs) ≡ [] → kept p j xs ≡ []
    by_kept true e = cc
    by_kept false e = e

-- a router that releases keeps what a router keeps
released_kept : (n : Network) (p : Prefix) (i : ℕ) (r : Router) → RouterKept n p i r → RouterKept n p i (router_releasing r)
released_kept n p i r R = record {
  ripe_within = (let le = R.ripe_within in omega (arith, le, length-drop 1 (r.gate).held));
  sorted = R.sorted;
  published_sorted = R.published_sorted;
  control_is = R.control_is;
  port_count = R.port_count;
  machine_ports = R.machine_ports;
  placed = λ j out. kept_tail p j (r.gate).held (R.placed j out);
}

-- a first message that is kept comes first
kept_first : (p : Prefix) (j : ℕ) (h : Held) (hs : List Held) → is_kept p j h ≡ true → kept p j (h ∷ hs) ≡ held_as h ∷ kept p j hs
kept_first p j h hs is = rw is refl

-- a first message that is not kept leaves the rest
kept_not : (p : Prefix) (j : ℕ) (h : Held) (hs : List Held) → is_kept p j h ≡ false → kept p j (h ∷ hs) ≡ kept p j hs
kept_not p j h hs is = rw is refl

-- ---- a message on its link

-- whether the link is up in the session of the message, so that it goes
abbrev goes : Held → Link → Bool
goes h k = k.up && (k.session == h.session)

-- what holds of a link, with the message added at the other end or not, holds of it once the message is put there
pub by_message : (P : Link → Type 0) (h : Held) (e : End) (k : Link) → P k → P (changed_side (other e) (with_item (Item.Message h.message)) k) → P (with_message h e k)
by_message P h e k stays added = by_test (goes h k)
  where
    by_test : (b : Bool) → P (if b then changed_side (other e) (with_item (Item.Message h.message)) k else k)
    by_test true = added
    by_test false = stays

-- a message that is put on a link leaves its two routers
message_ends : (h : Held) (e : End) (k : Link) → ends (with_message h e k) ≡ ends k
message_ends h e k = by_message (λ z. ends z ≡ ends k) h e k refl (changed_side-ends (other e) (with_item (Item.Message h.message)) k (λ s. refl))

-- a message that is put on a link leaves it up or down as it was
message_up : (h : Held) (e : End) (k : Link) → (with_message h e k).up ≡ k.up
message_up h e k = by_message (λ z. z.up ≡ k.up) h e k refl (up_beside (other e) (with_item (Item.Message h.message)) k)

-- a message that is put on a link leaves its session
message_session : (h : Held) (e : End) (k : Link) → (with_message h e k).session ≡ k.session
message_session h e k = by_message (λ z. z.session ≡ k.session) h e k refl (session_beside (other e) (with_item (Item.Message h.message)) k)

-- a message that is put on a link leaves the cost from each end
message_cost : (h : Held) (d e : End) (k : Link) → (side d (with_message h e k)).cost ≡ (side d k).cost
message_cost h d e k = by_message (λ z. (side d z).cost ≡ (side d k).cost) h e k refl (by_ends d e)
  where
    by_ends : (d e : End) → (side d (changed_side (other e) (with_item (Item.Message h.message)) k)).cost ≡ (side d k).cost
    by_ends A A = refl
    by_ends A B = refl
    by_ends B A = refl
    by_ends B B = refl

-- a message that is put on a link leaves the end that sends it
message_near : (h : Held) (d e : End) (k : Link) → d ≡ other (other e) → side d (with_message h e k) ≡ side d k
message_near h d e k is = by_message (λ z. side d z ≡ side d k) h e k refl (changed_beside (other e) d (with_item (Item.Message h.message)) k is)

-- the far end has the message to take at the back, where it goes
message_far : (p : Prefix) (h : Held) (e : End) (k : Link) → prefix_eq p (h.message).prefix ≡ true → inbox_of p (other e) (with_message h e k) ≡ inbox_of p (other e) k ++ (if goes h k then Reported (msg_of h.message) ∷ [] else [])
message_far p h e k same = by_test (goes h k)
  where
    one : heard p (Item.Message h.message ∷ []) ≡ Reported (msg_of h.message) ∷ []
    one = rw same refl

    by_test : (b : Bool) → inbox_of p (other e) (if b then changed_side (other e) (with_item (Item.Message h.message)) k else k) ≡ inbox_of p (other e) k ++ (if b then Reported (msg_of h.message) ∷ [] else [])
    by_test true = ap (λ (s : Side). heard p s.inbox) (changed_here (other e) (with_item (Item.Message h.message)) k) ∙ heard-append p (side (other e) k).inbox (Item.Message h.message ∷ []) ∙ ap (λ xs. inbox_of p (other e) k ++ xs) one
    by_test false = sym (append-nil (inbox_of p (other e) k))

-- a message of another prefix leaves what this one hears at each end
message_unheard : (p : Prefix) (h : Held) (d e : End) (k : Link) → prefix_eq p (h.message).prefix ≡ false → inbox_of p d (with_message h e k) ≡ inbox_of p d k
message_unheard p h d e k apart = by_message (λ z. inbox_of p d z ≡ inbox_of p d k) h e k refl (by_ends d e)
  where
    none : (xs : List Item) → heard p (xs ++ Item.Message h.message ∷ []) ≡ heard p xs
    none xs = heard-append p xs (Item.Message h.message ∷ []) ∙ (let e : heard p (Item.Message h.message ∷ []) ≡ [] = rw apart refl in ap (λ ys. heard p xs ++ ys) e) ∙ append-nil (heard p xs)

    by_ends : (d e : End) → inbox_of p d (changed_side (other e) (with_item (Item.Message h.message)) k) ≡ inbox_of p d k
    by_ends A B = none (k.a).inbox
    by_ends B A = none (k.b).inbox
    by_ends _ _ = refl

-- ---- routers

module _ (n : Network) (p : Prefix) (w : World) (pfd : ℕ → ℕ) (K : WorldKept n p w) (i : ℕ) (r : Router) (router_at : slice_get w.routers i ≡ Some r) (h : Held) (F : Front r h) (links : List Link) where
  -- the view before
  abbrev old : State
  old = view n p w pfd

  -- the world with these links, where router i has released
  abbrev v : World
  v = record w { links = links; routers = changed_at i router_releasing w.routers }

  -- the view after
  abbrev new : State
  new = view n p v pfd

  -- router i is then the router that released
  new_at : (j : ℕ) → j ≡ i → slice_get v.routers j ≡ Some (router_releasing r)
  new_at j e = ap (slice_get v.routers) e ∙ slice_get-changed_at router_releasing i w.routers ∙ ap (option_map router_releasing) router_at

  -- the world after keeps what a world keeps, if the links do
  world_kept : WorldKept n p (record w { links = links }) → WorldKept n p v
  world_kept L = with_router n p (record w { links = links }) i router_releasing (λ y there. (released_kept n p i y (L.routers_kept i y there), refl)) L

  -- a release leaves all machines of the view
  machines_same : SameMachines old new
  machines_same = record {
    machine_same = λ j. on_router-same (λ y. machine_of y p) (opening_machine None []) w.routers router_releasing i j (λ y there. refl);
    seen_same = λ e. on_router-same (λ y. session_at y.ports e.port) 0 w.routers router_releasing i e.router (λ y there. refl);
  }

  -- a release leaves all that is published
  published_same : SamePublished old new
  published_same = record { published_same = λ j. on_router-same (next_hop_at p) None w.routers router_releasing i j (λ y there. refl); published_fd_same = λ j. refl }

  -- a release leaves all that may not be released yet
  unripe_same : (e : LinkEnd) → new.unripe e ≡ old.unripe e
  unripe_same e = on_router-same (λ y. kept p e.port (unripe_of y)) [] w.routers router_releasing i e.router
      (λ y there. subst (λ (z : Router). kept p e.port (unripe_of (router_releasing z)) ≡ kept p e.port (unripe_of z)) (Some_injective (sym router_at ∙ there)) (ap (kept p e.port) (unripe_left r h F)))

  -- what may be released stays at a port for which the message is not kept
  ripe_beside : (e : LinkEnd) → is_kept p e.port h ≡ false → new.ripe e ≡ old.ripe e
  ripe_beside e is = on_router-same (λ y. kept p e.port (ripe_of y)) [] w.routers router_releasing i e.router
      (λ y there. subst (λ (z : Router). kept p e.port (ripe_of (router_releasing z)) ≡ kept p e.port (ripe_of z)) (Some_injective (sym router_at ∙ there))
      (sym (ap (kept p e.port) (ripe_front_is r h F) ∙ kept_not p e.port h (ripe_of (router_releasing r)) is)))

  -- what may be released stays at the other ports
  ripe_elsewhere : (e : LinkEnd) → (e ≡ at_port i h.port → ⊥) → new.ripe e ≡ old.ripe e
  ripe_elsewhere e apart = elim (cases_eq e.router i) [
    | inl g ↦ ripe_beside e (and_left (h.port == e.port) (prefix_eq p (h.message).prefix) (ne_eqb h.port e.port (λ f. apart (ap (λ (z : ℕ). at_port z e.port) g ∙ ap (λ (z : ℕ). at_port i z) (sym f)))))
    | inr g ↦ on_router-miss (λ y. kept p e.port (ripe_of y)) [] w.routers router_releasing i e.router g
  ]

  -- a message of the prefix was the first that might be released at its port
  ripe_here : is_kept p h.port h ≡ true → old.ripe (at_port i h.port) ≡ held_as h ∷ new.ripe (at_port i h.port)
  ripe_here is =
      on_router-there (λ y. kept p h.port (ripe_of y)) [] w.routers i r router_at
      ∙ ap (kept p h.port) (ripe_front_is r h F) ∙ kept_first p h.port h (ripe_of (router_releasing r)) is
      ∙ ap (λ xs. held_as h ∷ xs) (sym (on_router-there (λ y. kept p h.port (ripe_of y)) [] v.routers i (router_releasing r) (new_at i refl)))

-- ---- the world, where the message's port is there

module _ (n : Network) (N : IsWired n) (p : Prefix) (w : World) (pfd : ℕ → ℕ) (K : WorldKept n p w) (i : ℕ) (r : Router) (router_at : slice_get w.routers i ≡ Some r) (h : Held) (F : Front r h)
    (x0 : Place) (laid_a : lay n (at_port i h.port) ≡ Some x0) (k : Link) (at : slice_get w.links x0.link ≡ Some k) where
  -- the port for which the message is
  abbrev a : LinkEnd
  a = at_port i h.port

  -- the links after the release
  abbrev ls : List Link
  ls = changed_at x0.link (with_message h x0.end) w.links

  -- the view before
  abbrev before : State
  before = view n p w pfd

  -- the world after the release
  abbrev then' : World
  then' = record w { links = ls; routers = changed_at i router_releasing w.routers }

  -- the view after
  abbrev now : State
  now = view n p then' pfd

  -- the world after keeps what a world keeps
  kept_then : WorldKept n p then'
  kept_then = world_kept n p w pfd K i r router_at h F ls (with_links n p w x0.link (with_message h x0.end) (message_ends h x0.end) K)

  -- a release leaves all links up or down, and in their sessions, as they were
  links_same : SameLinks before now
  links_same = record {
    up_same = λ e. on_link-same (λ en y. y.up) false w.links (with_message h x0.end) x0.link (lay n e) (λ y j is link there. message_up h x0.end j);
    session_same = λ e. on_link-same (λ en y. y.session) 0 w.links (with_message h x0.end) x0.link (lay n e) (λ y j is link there. message_session h x0.end j);
  }

  -- a release leaves all costs
  costs_same : SameCosts before now
  costs_same = record { cost_same = λ e. on_link-same (λ en y. (side en y).cost) 0 w.links (with_message h x0.end) x0.link (lay n e) (λ y j is link there. message_cost h y.end x0.end j) }

  -- a message of another prefix that is released leaves the view as it was
  pub skipped_other : prefix_eq p (h.message).prefix ≡ false → Skip (topology n N) before now
  skipped_other apart = record {
    machines = machines_same n p w pfd K i r router_at h F ls;
    inboxes = record { inbox_same = λ e. on_link-same (inbox_of p) [] w.links (with_message h x0.end) x0.link (lay n e) (λ y j is link there. message_unheard p h y.end x0.end j apart) };
    holdings = record { ripe_same = λ e. ripe_beside n p w pfd K i r router_at h F ls e (and_right (h.port == e.port) (prefix_eq p (h.message).prefix) apart); unripe_same = unripe_same n p w pfd K i r router_at h F ls };
    links = links_same;
    costs = costs_same;
    publications = published_same n p w pfd K i r router_at h F ls;
  }

  -- the message goes in the view where it does in the world
  arrives : (before.up a && (h.session == before.session a)) ≡ goes h k
  arrives = λ z. on_link-there (λ en y. y.up) false w.links (lay n a) x0 k laid_a at z && ((ap (λ (m : ℕ). h.session == m) (on_link-there (λ en y. y.session) 0 w.links (lay n a) x0 k laid_a at) ∙ eqb_sym h.session k.session) z)

  -- the port across lies at the other end of the link
  laid_far : lay n (far n a) ≡ Some (across x0)
  laid_far = far_laid n N a x0 laid_a

  -- the port across has what arrives to take at the back
  inbox_far : prefix_eq p (h.message).prefix ≡ true → now.inbox (far n a) ≡ before.inbox (far n a) ++ arriving before a (held_as h)
  inbox_far same =
      on_link-hit (inbox_of p) [] w.links (with_message h x0.end) x0.link (lay n (far n a)) (across x0) k laid_far refl at
      ∙ message_far p h x0.end k same
      ∙ (λ z. sym (on_link-there (inbox_of p) [] w.links (lay n (far n a)) (across x0) k laid_far at) z ++ (if sym arrives z then Reported (msg_of h.message) ∷ [] else []))

  -- the other ports have the same items to take
  inbox_elsewhere : (e : LinkEnd) → (e ≡ far n a → ⊥) → now.inbox e ≡ before.inbox e
  inbox_elsewhere e apart = on_link-same (inbox_of p) [] w.links (with_message h x0.end) x0.link (lay n e)
      (λ y j is link there. ap (λ (s : Side). heard p s.inbox) (message_near h y.end x0.end j (other_end n N (far n a) (across x0) laid_far e apart y is link)))

  -- a message of the prefix that is released is released in the view
  pub released_this : prefix_eq p (h.message).prefix ≡ true → NetRelease (topology n N) before now
  released_this same = record {
    a = a;
    first = held_as h;
    valid_place = ap is_some laid_a;
    ripe_at = ripe_here n p w pfd K i r router_at h F ls (and_from (h.port == h.port) (prefix_eq p (h.message).prefix) (eq-eqb h.port h.port refl) same);
    ripe_elsewhere = ripe_elsewhere n p w pfd K i r router_at h F ls;
    inbox_at = inbox_far same;
    inbox_elsewhere = inbox_elsewhere;
    unripe_same = unripe_same n p w pfd K i r router_at h F ls;
    machines = machines_same n p w pfd K i r router_at h F ls;
    links = links_same;
    costs = costs_same;
    publications = published_same n p w pfd K i r router_at h F ls;
  }

  -- the step Release is one of the view where the port of the message is there
  pub releases_there : StepKept n N p w pfd then' pfd
  releases_there = by_prefix (prefix_eq p (h.message).prefix) refl
    where
      by_prefix : (b : Bool) → prefix_eq p (h.message).prefix ≡ b → StepKept n N p w pfd then' pfd
      by_prefix true is = record { kept = kept_then; step = Releases (released_this is) }
      by_prefix false is = record { kept = kept_then; step = Skips (skipped_other is) }

-- ---- the world, where it is not

module _ (n : Network) (N : IsWired n) (p : Prefix) (w : World) (pfd : ℕ → ℕ) (K : WorldKept n p w) (i : ℕ) (r : Router) (router_at : slice_get w.routers i ≡ Some r) (h : Held) (F : Front r h) where
  -- a message for a port that is not there is of another prefix
  unplaced : lay n (at_port i h.port) ≡ None → prefix_eq p (h.message).prefix ≡ false
  unplaced out = by_prefix (prefix_eq p (h.message).prefix) refl
    where
      by_prefix : (b : Bool) → prefix_eq p (h.message).prefix ≡ b → b ≡ false
      by_prefix false is = refl
      by_prefix true is =
          let held : kept p h.port (h ∷ F.rest) ≡ [] = sym (ap (kept p h.port) F.held_is) ∙ (K.routers_kept i r router_at).placed h.port out in
          let one : kept p h.port (h ∷ F.rest) ≡ held_as h ∷ kept p h.port F.rest = kept_first p h.port h F.rest (and_from (h.port == h.port) (prefix_eq p (h.message).prefix) (eq-eqb h.port h.port refl) is) in
          cc

  -- a release leaves the view as it was where the port of the message is not there
  pub skipped_nowhere : lay n (at_port i h.port) ≡ None → Skip (topology n N) (view n p w pfd) (view n p (record w { links = w.links; routers = changed_at i router_releasing w.routers }) pfd)
  skipped_nowhere out = record {
    machines = machines_same n p w pfd K i r router_at h F w.links;
    inboxes = record { inbox_same = λ e. refl };
    holdings = record { ripe_same = λ e. ripe_beside n p w pfd K i r router_at h F w.links e (and_right (h.port == e.port) (prefix_eq p (h.message).prefix) (unplaced out)); unripe_same = unripe_same n p w pfd K i r router_at h F w.links };
    links = record { up_same = λ e. refl; session_same = λ e. refl };
    costs = record { cost_same = λ e. refl };
    publications = published_same n p w pfd K i r router_at h F w.links;
  }

  -- so the step Release is one of the view there
  pub releases_nowhere : lay n (at_port i h.port) ≡ None → StepKept n N p w pfd (record w { links = w.links; routers = changed_at i router_releasing w.routers }) pfd
  releases_nowhere out = record { kept = world_kept n p w pfd K i r router_at h F w.links K; step = Skips (skipped_nowhere out) }
