-- Every run of a network is a run of the view, which shows the feasible distances that were published last.
use Rattle.std.proofs.Common.{refl, sym, ap, subst, ◌∙◌, arith, inl, inr, length-set, ◌<◌, zero, suc, length, slice_set, if◌then◌else◌, ◌==◌, false, ◌≡◌, ℕ, ◌≤◌, true, List, [], ◌∷◌, Option, Some, None, slice_get, option_map, option_and_then, ◌⊎◌, eq-eqb, eqb-true, ne_eqb}
use Rattle.no_packet_loops.proofs.Common.{option_map_or, cases_eq, false≢true, slice_get_within, Prefix, Machine, opening_machine, changed_at, infinity, machine_of, Link, Router, Attachments, World, Network, side, place_at, places_from, link_at, opening, Item, Held, Notice, Place, Lawful, next, with_cost, with_front_taken, with_message, router_releasing, with_delivered, with_noticed, with_released, router_accepting, front_at, notice_at, is_at_home, release_at, ripe_front, changed_router, Runs, History, history_from, published_after, with_step, with_steps, history, option_map_or-ind, None_not_Some, listed_within, at_home_there, at_port, view, lay, fd_in, machine_laws, Run, Start, Then, Invariant, opening_keeps, steps_keep, Step, LinkUp, LinkDown, SetCost, Deliver, Publish, Release, Attach, Detach}
use Rattle.no_packet_loops.proofs.{WorldLaws.next-shape, Wiring.IsWired, Places.topology, Places.laid, View.on_router-there, Kept.WorldKept, Kept.StepKept, Kept.linked, Linking.link_up, Linking.link_down, Linking.cost_set_at, Taking.takes_item, TakingAtHome.takes_notice, Attaching.attaches, Attaching.detaches, Publishing.publishes, Releasing.front_of, Releasing.releases_there, Releasing.releases_nowhere, Opened.first_fd, Opened.opening_kept, Opened.opening_view}

-- the place of a router's port in a world is that in its network
pub place_is : (n : Network) (p : Prefix) (w : World) → WorldKept n p w → (i q : ℕ) → place_at w i q ≡ lay n (at_port i q)
place_is n p w K i q = ap (λ (ps : List (List Place)). option_and_then (λ (xs : List Place). slice_get xs q) (slice_get ps i)) K.places_same

-- ---- what a step of a world comes to

module _ (n : Network) (p : Prefix) (w : World) (K : WorldKept n p w) (P : World → Type 0) where
  -- a router takes an item of a link
  pub by_deliver : (i q : ℕ) (item : Item) → front_at w i q ≡ Some item
      → ((x : Place) → lay n (at_port i q) ≡ Some x → (k : Link) → slice_get w.links x.link ≡ Some k → slice_get (side x.end k).inbox 0 ≡ Some item
      → P (record w { links = changed_at x.link (with_front_taken x.end) w.links; routers = changed_at i (router_accepting q item) w.routers })) → P (next w (Deliver i q))
  by_deliver i q item front taken = by_place (lay n (at_port i q)) refl
      (sym (ap (λ o. option_and_then (λ s. slice_get s.inbox 0) (option_and_then (λ (x : Place). option_map (side x.end) (slice_get w.links x.link)) o)) (place_is n p w K i q)) ∙ front)
    where
      by_link : (x : Place) → lay n (at_port i q) ≡ Some x → (o : Option Link) → slice_get w.links x.link ≡ o → option_and_then (λ s. slice_get s.inbox 0) (option_map (side x.end) o) ≡ Some item → P (next w (Deliver i q))
      by_link x is None at h = absurd (None_not_Some h)
      by_link x is (Some k) at h = subst P
          (sym (ap (λ o. option_map_or (with_delivered i q w) o (option_map_or (with_noticed i w) (notice_at w i q) w)) front
          ∙ ap (λ o. changed_router i (router_accepting q item) (option_map_or (λ (y : Place). record w { links = changed_at y.link (with_front_taken y.end) w.links }) o w)) (place_is n p w K i q ∙ is)))
          (taken x is k at h)

      by_place : (o : Option Place) → lay n (at_port i q) ≡ o → option_and_then (λ s. slice_get s.inbox 0) (option_and_then (λ (x : Place). option_map (side x.end) (slice_get w.links x.link)) o) ≡ Some item → P (next w (Deliver i q))
      by_place None is h = absurd (None_not_Some h)
      by_place (Some x) is h = by_link x is (slice_get w.links x.link) refl h

  -- a router takes a notice of its attachment
  pub by_notice : (i q : ℕ) (x : Notice) → front_at w i q ≡ None → notice_at w i q ≡ Some x
      → ((a : Attachments) → slice_get w.attachments i ≡ Some a → slice_get a.notices 0 ≡ Some x → P (with_noticed i w x)) → P (next w (Deliver i q))
  by_notice i q x none at noticed = by_attachments (slice_get w.attachments i) refl front
    where
      front : option_and_then (λ (a : Attachments). slice_get a.notices 0) (slice_get w.attachments i) ≡ Some x
      front = sym (ap (λ b. if b then option_and_then (λ (a : Attachments). slice_get a.notices 0) (slice_get w.attachments i) else None) (at_home_there (is_at_home w i q) _ at)) ∙ at

      world_is : next w (Deliver i q) ≡ with_noticed i w x
      world_is = ap (λ o. option_map_or (with_delivered i q w) o (option_map_or (with_noticed i w) (notice_at w i q) w)) none ∙ ap (λ o. option_map_or (with_noticed i w) o w) at

      by_attachments : (o : Option Attachments) → slice_get w.attachments i ≡ o → option_and_then (λ (a : Attachments). slice_get a.notices 0) o ≡ Some x → P (next w (Deliver i q))
      by_attachments None owns h = absurd (None_not_Some h)
      by_attachments (Some a) owns h = subst P (sym world_is) (noticed a owns h)

  -- a router releases a message, to a port that is not there or to one that is
  pub by_release : (i : ℕ) (h : Held) → release_at w i ≡ Some h
      → ((r : Router) → slice_get w.routers i ≡ Some r → ripe_front r ≡ Some h → lay n (at_port i h.port) ≡ None → P (record w { links = w.links; routers = changed_at i router_releasing w.routers }))
      → ((r : Router) → slice_get w.routers i ≡ Some r → ripe_front r ≡ Some h → (x : Place) → lay n (at_port i h.port) ≡ Some x → (k : Link) → slice_get w.links x.link ≡ Some k
      → P (record w { links = changed_at x.link (with_message h x.end) w.links; routers = changed_at i router_releasing w.routers })) → P (next w (Release i))
  by_release i h at nowhere there = by_router (slice_get w.routers i) refl at
    where
      world_is : (o : Option Place) → lay n (at_port i h.port) ≡ o → next w (Release i) ≡ changed_router i router_releasing (option_map_or (λ (y : Place). record w { links = changed_at y.link (with_message h y.end) w.links }) o w)
      world_is o is = ap (λ o. option_map_or (with_released i w) o w) at
          ∙ ap (λ o. changed_router i router_releasing (option_map_or (λ (y : Place). record w { links = changed_at y.link (with_message h y.end) w.links }) o w)) (place_is n p w K i h.port ∙ is)

      by_place : (r : Router) → slice_get w.routers i ≡ Some r → ripe_front r ≡ Some h → (o : Option Place) → lay n (at_port i h.port) ≡ o → P (next w (Release i))
      by_place r router_at first None is = subst P (sym (world_is None is)) (nowhere r router_at first is)
      by_place r router_at first (Some x) is =
          let L = laid n (at_port i h.port) x is in
          let k = linked n p w K x.link L.spec L.is_link in
          subst P (sym (world_is (Some x) is)) (there r router_at first x is k.0 k.1)

      by_router : (o : Option Router) → slice_get w.routers i ≡ o → option_and_then ripe_front o ≡ Some h → P (next w (Release i))
      by_router None router_at f = absurd (None_not_Some f)
      by_router (Some r) router_at f = by_place r router_at f (lay n (at_port i h.port)) refl

-- ---- the view

-- the element that is set is found at its position
pub set_here : (rs : List Router) (i : ℕ) (r : Router) → i < length rs → slice_get (slice_set rs i r) i ≡ Some r
set_here [] i r lt = absurd (omega arith)
set_here (x ∷ xs) zero r lt = refl
set_here (x ∷ xs) (suc i) r lt = set_here xs i r (omega (arith, lt))

-- the elements at other positions stay
pub set_beside : (rs : List Router) (i j : ℕ) (r : Router) → (j ≡ i → ⊥) → slice_get (slice_set rs i r) j ≡ slice_get rs j
set_beside (x ∷ xs) zero zero r d = absurd (d refl)
set_beside (x ∷ xs) (suc i) (suc j) r d = set_beside xs i j r (λ e. d (ap suc e))
set_beside _ _ _ r d = refl

module _ (n : Network) (N : IsWired n) (p : Prefix) (w : World) (pfd : ℕ → ℕ) (K : WorldKept n p w) (I : Invariant (topology n N) (view n p w pfd)) where
  -- a step to v that publishes nothing is one of the view, and v keeps what a world keeps
  abbrev Kept : World → Type 0
  Kept v = StepKept n N p w pfd v pfd

  -- the step SetCost is one of the view
  set_cost : (i q cost : ℕ) (k : Link) → link_at w i q ≡ Some k → k.up ≡ true → 1 ≤ cost → Kept (next w (SetCost i q cost))
  set_cost i q cost k at up positive = by_place (lay n (at_port i q)) refl (sym (ap (option_and_then (λ (x : Place). slice_get w.links x.link)) (place_is n p w K i q)) ∙ at)
    where
      by_place : (o : Option Place) → lay n (at_port i q) ≡ o → option_and_then (λ (x : Place). slice_get w.links x.link) o ≡ Some k → Kept (next w (SetCost i q cost))
      by_place None is h = absurd (None_not_Some h)
      by_place (Some x) is h = subst Kept
          (sym (ap (λ o. option_map_or (λ (y : Place). record w { links = changed_at y.link (with_cost cost y.end) w.links }) o w) (place_is n p w K i q ∙ is)))
          (cost_set_at n N p w pfd K (at_port i q) x is k h cost up positive)

  -- the step Deliver is one of the view
  deliver : (i q : ℕ) (r : Router) (item : Item) → slice_get w.routers i ≡ Some r → front_at w i q ≡ Some item → Kept (next w (Deliver i q))
  deliver i q r item router_at front = by_deliver n p w K Kept i q item front (λ x is k at h. takes_item n N p w pfd K I i q x is k at r router_at item h)

  -- a notice is taken at the port numbered by the degree, where no item of a link is
  home_port : (i q : ℕ) (x : Notice) → notice_at w i q ≡ Some x → (i < n.routers) × (front_at w i q ≡ None)
  home_port i q x at =
      let there : is_at_home w i q ≡ true = at_home_there (is_at_home w i q) _ at in
      by_places (slice_get (opening n).places i) refl (sym (ap (λ (ps : List (List Place)). option_map_or (λ d. q == d) (option_map (λ (xs : List Place). length xs) (slice_get ps i)) false) K.places_same) ∙ there)
    where
      past_end : (xs : List Place) (j : ℕ) → j ≡ length xs → slice_get xs j ≡ None
      past_end [] j e = refl
      past_end (y ∷ ys) zero e = absurd (omega (arith, e))
      past_end (y ∷ ys) (suc j) e = past_end ys j (omega (arith, e))

      by_places : (o : Option (List Place)) → slice_get (opening n).places i ≡ o → option_map_or (λ d. q == d) (option_map (λ (xs : List Place). length xs) o) false ≡ true → (i < n.routers) × (front_at w i q ≡ None)
      by_places None is h = absurd (false≢true h)
      by_places (Some xs) is h = (
        (listed_within (λ j. places_from 0 j n.links) n.routers i xs is).0,
        ap (λ (ps : List (List Place)). option_and_then (λ s. slice_get s.inbox 0) (option_and_then (λ (y : Place). option_map (side y.end) (slice_get w.links y.link)) (option_and_then (λ (ys : List Place). slice_get ys q) (slice_get ps i)))) K.places_same
            ∙ ap (λ o. option_and_then (λ s. slice_get s.inbox 0) (option_and_then (λ (y : Place). option_map (side y.end) (slice_get w.links y.link)) o)) (ap (option_and_then (λ (ys : List Place). slice_get ys q)) is ∙ past_end xs q (eqb-true q (length xs) h)),
      )

  -- the step Deliver at the attachments is one of the view
  deliver_home : (i q : ℕ) (r : Router) (x : Notice) → slice_get w.routers i ≡ Some r → notice_at w i q ≡ Some x → Kept (next w (Deliver i q))
  deliver_home i q r x router_at at = let port = home_port i q x at in by_notice n p w K Kept i q x port.1 at (λ a owns h. takes_notice n N p w pfd K I i port.0 r router_at a owns x h)

  -- the step Release is one of the view
  release : (i : ℕ) (h : Held) → release_at w i ≡ Some h → Kept (next w (Release i))
  release i h at = by_release n p w K Kept i h at
      (λ r router_at first is. releases_nowhere n N p w pfd K i r router_at h (front_of r h first) is)
      (λ r router_at first x is k there. releases_there n N p w pfd K i r router_at h (front_of r h first) x is k there)

  -- a step is one of the view, which goes on showing the feasible distance that each router had when it published last
  pub record Stepped (s : Step) : Type 0 where
    pub fd_then : ℕ → ℕ
    pub is_kept : StepKept n N p w pfd (next w s) fd_then
    pub fds_then : (rs : List Router) → ((i : ℕ) → pfd i ≡ fd_in rs p i) → length rs ≡ length w.routers → (i : ℕ) → fd_then i ≡ fd_in (published_after w rs s) p i

  -- a step that publishes nothing leaves the published feasible distances
  same_fds : (rs : List Router) → ((i : ℕ) → pfd i ≡ fd_in rs p i) → length rs ≡ length w.routers → (i : ℕ) → pfd i ≡ fd_in rs p i
  same_fds rs F c = F

  -- the step Publish is one of the view, and publishes the present feasible distance of its router
  publish : (i : ℕ) (r : Router) → slice_get w.routers i ≡ Some r → Stepped (Publish i)
  publish i r at = record { fd_then = λ j. if j == i then ((view n p w pfd).machine i).fd else pfd j; is_kept = publishes n N p w pfd K I i r at; fds_then = fds }
    where
      is_set : (rs : List Router) → published_after w rs (Publish i) ≡ slice_set rs i r
      is_set rs = ap (λ o. option_map_or (λ (y : Router). slice_set rs i y) o rs) at

      fds : (rs : List Router) → ((j : ℕ) → pfd j ≡ fd_in rs p j) → length rs ≡ length w.routers → (j : ℕ) → (if j == i then ((view n p w pfd).machine i).fd else pfd j) ≡ fd_in (published_after w rs (Publish i)) p j
      fds rs F c j = elim (cases_eq j i) [
        | inl e ↦ rw (eq-eqb j i e) (
            ap (λ (m : Machine). m.fd) (on_router-there (λ y. machine_of y p) (opening_machine None []) w.routers i r at)
            ∙ sym (ap (λ o. option_map_or (λ (y : Router). (machine_of y p).fd) o infinity)
            (ap (λ (xs : List Router). slice_get xs j) (is_set rs) ∙ ap (slice_get (slice_set rs i r)) e ∙ set_here rs i r (let lt = slice_get_within w.routers i r at in omega (arith, lt, c)))))
        | inr d ↦ rw (ne_eqb j i d) (
            F j ∙ sym (ap (λ o. option_map_or (λ (y : Router). (machine_of y p).fd) o infinity) (ap (λ (xs : List Router). slice_get xs j) (is_set rs) ∙ set_beside rs i j r d)))
      ]

  -- every lawful step is one of the view
  pub stepped : (s : Step) → Lawful w s → Stepped s
  stepped (LinkUp l) L = record { fd_then = pfd; is_kept = link_up n N p w pfd K l L.0 L.1 L.2; fds_then = same_fds }
  stepped (LinkDown l) L = record { fd_then = pfd; is_kept = link_down n N p w pfd K l L.0 L.1 L.2; fds_then = same_fds }
  stepped (SetCost i q cost) L = record { fd_then = pfd; is_kept = set_cost i q cost L.1 L.3 L.4 (L.5).positive; fds_then = same_fds }
  stepped (Deliver i q) L = record { fd_then = pfd; is_kept = by_front L.2; fds_then = same_fds }
    where
      by_front : ((item : Item) × (front_at w i q ≡ Some item)) ⊎ ((x : Notice) × (notice_at w i q ≡ Some x)) → Kept (next w (Deliver i q))
      by_front (inl (item, at)) = deliver i q L.0 item L.1 at
      by_front (inr (x, at)) = deliver_home i q L.0 x L.1 at
  stepped (Publish i) L = publish i L.0 L.1
  stepped (Release i) L = record { fd_then = pfd; is_kept = release i L.0 L.1; fds_then = same_fds }
  stepped (Attach i k cost) L = record { fd_then = pfd; is_kept = attaches n N p w pfd K i k cost L.3; fds_then = same_fds }
  stepped (Detach i k) L = record { fd_then = pfd; is_kept = detaches n N p w pfd K i k; fds_then = same_fds }

-- a step leaves the length of the list of routers as they published last
pub published_count : (w : World) (rs : List Router) (s : Step) → length (published_after w rs s) ≡ length rs
published_count w rs (Publish i) = option_map_or-ind (λ (xs : List Router). length xs ≡ length rs) (λ r. slice_set rs i r) (slice_get w.routers i) rs refl (λ r at. length-set rs i r)
published_count w rs _ = refl

-- a run of the view leads to the view of w, with rs as the routers when they published last; w keeps what worlds keep
pub record Reached (n : Network) (N : IsWired n) (p : Prefix) (w : World) (rs : List Router) : Type 0 where
  pub kept : WorldKept n p w
  pub published_fd : ℕ → ℕ
  pub fds_are : (i : ℕ) → published_fd i ≡ fd_in rs p i
  pub count : length rs ≡ length w.routers
  pub run : Run (topology n N) (view n p (opening n) (first_fd n N p)) (view n p w published_fd)
  pub inv : Invariant (topology n N) (view n p w published_fd)

-- the feasible distance of a machine that the view shows is that of its router, if it is there, else infinity
pub fd_is : (p : Prefix) (o : Option Router) → (option_map_or (λ r. machine_of r p) o (opening_machine None [])).fd ≡ option_map_or (λ r. (machine_of r p).fd) o infinity
fd_is p None = refl
fd_is p (Some r) = refl

-- the opening of a network is reached
started : (n : Network) (N : IsWired n) (p : Prefix) → Reached n N p (opening n) (opening n).routers
started n N p = record {
  kept = opening_kept n N p;
  published_fd = first_fd n N p;
  fds_are = λ i. fd_is p (slice_get (opening n).routers i);
  count = refl;
  run = Start;
  inv = opening_keeps (topology n N) (view n p (opening n) (first_fd n N p)) (opening_view n N p);
}

-- from a world that is reached, each world to which lawful steps lead is reached
pub goes_on : (n : Network) (N : IsWired n) (p : Prefix) (h : History) (ss : List Step) (v : World) → Runs h.world ss v → Reached n N p h.world h.published → Reached n N p v (with_steps h ss).published
goes_on n N p h [] v r R = subst (λ (w : World). Reached n N p w h.published) r R
goes_on n N p h (s ∷ ss) v r R =
    let S = stepped n N p h.world R.published_fd R.kept R.inv s r.0 in
    goes_on n N p (with_step h s) ss v r.1 (record {
      kept = (S.is_kept).kept;
      published_fd = S.fd_then;
      fds_are = S.fds_then h.published R.fds_are R.count;
      count = published_count h.world h.published s ∙ R.count ∙ sym (next-shape h.world s).routers;
      run = Then R.run (S.is_kept).step;
      inv = steps_keep machine_laws (topology n N) (view n p h.world R.published_fd) (view n p (next h.world s) S.fd_then) R.inv (S.is_kept).step;
    })

-- each world to which a run leads from the opening of a network is reached
pub reached : (n : Network) (N : IsWired n) (p : Prefix) (ss : List Step) (w : World) → Runs (opening n) ss w → Reached n N p w (history n ss).published
reached n N p ss w r = goes_on n N p (history_from (opening n)) ss w r (started n N p)

-- the world of a history with steps more is that to which they run
world_of : (h : History) (ss : List Step) (v : World) → Runs h.world ss v → (with_steps h ss).world ≡ v
world_of h [] v r = r
world_of h (s ∷ ss) v r = world_of (with_step h s) ss v r.1

-- the world of the history of a run is that to which it leads
pub history_world : (n : Network) (ss : List Step) (w : World) → Runs (opening n) ss w → (history n ss).world ≡ w
history_world n ss w r = world_of (history_from (opening n)) ss w r
