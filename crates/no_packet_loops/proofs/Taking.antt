-- A router that takes an item takes it in the view too, or nothing of the prefix changes.
use Rattle.std.proofs.Common.{refl, sym, ap, subst, ◌∙◌, arith, inl, inr, ◌≡◌, ℕ, zero, suc, ◌<◌, Bool, true, false, List, [], ◌∷◌, ◌++◌, length, drop, Option, Some, None, is_some, slice_get, option_map, option_and_then}
use Rattle.no_packet_loops.proofs.Common.{option_map_or, cases_eq, false≢true, slice_get_within, Prefix, prefix_cmp, prefix_eq, Machine, reaction, changed_at, opening_machine, attachment_after, Neighbour, Event, Item, Message, Entry, End, Side, Link, Router, World, Network, side, machine_of, places_from, Place, Port, router_accepting, with_front_taken, session_at, Some_injective, None_not_Some, slice_get-changed_at, listed_at, LinkEnd, State, SeenItem, UpNotice, DownNotice, CostNotice, Reported, at_port, msg_of, next_hop, heard, heard_item, inbox_of, kept, ripe_of, unripe_of, next_hop_at, view, lay, Meets, IsSound, is_up_at, test_at, sent_to, machine_laws, Takes, Skips, event_of, seen_after, held_for, SameLinks, SameCosts, none_sent, IsLawfulInbox, meets_item, place_cases, Invariant, find as row_of, Take as NetTake, Skip, ports_length as records_length}
use Rattle.no_packet_loops.proofs.{Wiring.IsWired, Places.laid, Places.topology, Machines.up_opened, Machines.down_opened, Machines.cost_opened}
use Rattle.no_packet_loops.proofs.View.{on_link-there, on_link-hit, on_link-same, on_router-there, on_router-miss, on_router-same}
use Rattle.no_packet_loops.proofs.Kept.{RouterKept, WorldKept, StepKept, with_links, with_router, changed_side-ends, changed_beside, changed_here, up_beside, session_beside, other_end}
use Rattle.no_packet_loops.proofs.Accepting.{Silent, Reacted, Unmoved, reacts_to_notice, reacts_to_message, unmoved_by_message}

-- a list whose first element is the item is the item, and then the rest
front_of : (item : Item) (xs : List Item) → slice_get xs 0 ≡ Some item → xs ≡ item ∷ drop 1 xs
front_of item [] e = absurd (None_not_Some e)
front_of item (x ∷ xs) e = ap (λ (y : Item). y ∷ xs) (Some_injective e)

-- a port at which a neighbour is up is one of the ports
pub port_within : (ns : List Neighbour) (q : ℕ) → test_at (λ (x : Neighbour). x.up) (slice_get ns q) ≡ true → q < length ns
port_within ns q up = by_port (slice_get ns q) refl up
  where
    by_port : (o : Option Neighbour) → slice_get ns q ≡ o → test_at (λ (x : Neighbour). x.up) o ≡ true → q < length ns
    by_port None is h = absurd (false≢true h)
    by_port (Some x) is h = slice_get_within ns q x is

-- no place is missing at a position within the list
not_listed : (places : List Place) (j : ℕ) → slice_get places j ≡ None → j < length places → ⊥
not_listed [] j none lt = omega arith
not_listed (x ∷ xs) zero none lt = None_not_Some (sym none)
not_listed (x ∷ xs) (suc j) none lt = not_listed xs j none (omega (arith, lt))

-- at an event that it meets, the machine of the prefix sends nothing to a port that is not there
pub silent_to_none : (n : Network) (p : Prefix) (i : ℕ) (r : Router) → RouterKept n p i r → i < n.routers → (e : Event) → IsSound (machine_of r p) → Meets (machine_of r p) e → Silent n i (reaction (machine_of r p) e).sends
silent_to_none n p i r R known e sound meets j out =
    let m = machine_of r p in
    let unlisted : slice_get (places_from 0 i n.links) j ≡ None = sym (ap (option_and_then (λ (ps : List Place). slice_get ps j)) (listed_at (λ y. places_from 0 y n.links) n.routers i known)) ∙ out in
    let lengths : length (reaction m e).machine.ports ≡ length (places_from 0 i n.links) =
    ap (λ (ns : List Neighbour). length ns) (machine_laws.keeps_records m e) ∙ records_length e m.ports ∙ R.machine_ports ∙ R.port_count in
    none_sent j (reaction m e).sends (λ s c g same.
    not_listed (places_from 0 i n.links) j unlisted
    (let lt : s.port < length (reaction m e).machine.ports = port_within (reaction m e).machine.ports s.port ((machine_laws.sends_distance m e sound meets s c g).1) in
    omega (arith, lt, same, lengths)))

-- no item of a link changes an attachment
item_leaves : (q : ℕ) (item : SeenItem) (a : Option ℕ) → attachment_after (event_of q item) a ≡ a
item_leaves q (UpNotice s c) a = refl
item_leaves q _ a = refl

module _ (n : Network) (N : IsWired n) (p : Prefix) (w : World) (pfd : ℕ → ℕ) (K : WorldKept n p w) (I : Invariant (topology n N) (view n p w pfd))
    (i q : ℕ) (x0 : Place) (laid_a : lay n (at_port i q) ≡ Some x0) (k : Link) (at : slice_get w.links x0.link ≡ Some k) (r : Router) (router_at : slice_get w.routers i ≡ Some r)
    (item : Item) (front : slice_get (side x0.end k).inbox 0 ≡ Some item) where
  -- the port at which the item is taken
  abbrev a : LinkEnd
  a = at_port i q

  -- the view before
  abbrev old : State
  old = view n p w pfd

  -- the world after the item is taken
  abbrev v : World
  v = record w { links = changed_at x0.link (with_front_taken x0.end) w.links; routers = changed_at i (router_accepting q item) w.routers }

  -- the view after
  abbrev new : State
  new = view n p v pfd

  -- the router after the item is taken
  abbrev r' : Router
  r' = router_accepting q item r

  -- the router before keeps what a router keeps
  kept_r : RouterKept n p i r
  kept_r = K.routers_kept i r router_at

  -- ---- links

  -- an item taken at one end leaves the other end of the link
  beside_taken : (e : LinkEnd) → (e ≡ a → ⊥) → (y : Place) (j : Link) → lay n e ≡ Some y → y.link ≡ x0.link → side y.end (with_front_taken x0.end j) ≡ side y.end j
  beside_taken e apart y j is link = changed_beside x0.end y.end (λ s. record s { inbox = drop 1 s.inbox }) j (other_end n N a x0 laid_a e apart y is link)

  -- an item that is taken leaves all links up or down, and in their sessions, as they were
  links_same : SameLinks old new
  links_same = record {
    up_same = λ e. on_link-same (λ en y. y.up) false w.links (with_front_taken x0.end) x0.link (lay n e) (λ y j is link there. up_beside x0.end (λ s. record s { inbox = drop 1 s.inbox }) j);
    session_same = λ e. on_link-same (λ en y. y.session) 0 w.links (with_front_taken x0.end) x0.link (lay n e) (λ y j is link there. session_beside x0.end (λ s. record s { inbox = drop 1 s.inbox }) j);
  }

  -- an item that is taken leaves the cost from each end
  cost_taken : (d e : End) (j : Link) → (side d (with_front_taken e j)).cost ≡ (side d j).cost
  cost_taken End.A End.A j = refl
  cost_taken End.A End.B j = refl
  cost_taken End.B End.A j = refl
  cost_taken End.B End.B j = refl

  -- an item that is taken leaves all costs of the view
  costs_same : SameCosts old new
  costs_same = record { cost_same = λ e. on_link-same (λ en y. (side en y).cost) 0 w.links (with_front_taken x0.end) x0.link (lay n e) (λ y j is link there. cost_taken y.end x0.end j) }

  -- before, port a has to take what the prefix hears of the item, and then of the rest
  inbox_was : old.inbox a ≡ heard_item p item ++ heard p (drop 1 (side x0.end k).inbox)
  inbox_was = on_link-there (inbox_of p) [] w.links (lay n a) x0 k laid_a at ∙ ap (heard p) (front_of item (side x0.end k).inbox front)

  -- after, port a has to take what the prefix hears of the rest
  inbox_now : new.inbox a ≡ heard p (drop 1 (side x0.end k).inbox)
  inbox_now = on_link-hit (inbox_of p) [] w.links (with_front_taken x0.end) x0.link (lay n a) x0 k laid_a refl at ∙ ap (λ (s : Side). heard p s.inbox) (changed_here x0.end (λ s. record s { inbox = drop 1 s.inbox }) k)

  -- the other ports have the same items to take
  inbox_elsewhere : (e : LinkEnd) → (e ≡ a → ⊥) → new.inbox e ≡ old.inbox e
  inbox_elsewhere e apart = on_link-same (inbox_of p) [] w.links (with_front_taken x0.end) x0.link (lay n e) (λ y j is link there. ap (λ (s : Side). heard p s.inbox) (beside_taken e apart y j is link))

  -- ---- routers

  -- router i is then the router that took the item
  new_at : (j : ℕ) → j ≡ i → slice_get v.routers j ≡ Some r'
  new_at j e = ap (slice_get v.routers) e ∙ slice_get-changed_at (router_accepting q item) i w.routers ∙ ap (option_map (router_accepting q item)) router_at

  old_at : (j : ℕ) → j ≡ i → slice_get w.routers j ≡ Some r
  old_at j e = ap (slice_get w.routers) e ∙ router_at

  -- what holds of router i before and after alike is seen of all routers as before
  router_same : {X : Type 0} (f : Router → X) (d : X) → f r' ≡ f r → (j : ℕ) → option_map_or f (slice_get v.routers j) d ≡ option_map_or f (slice_get w.routers j) d
  router_same f d same j = on_router-same f d w.routers (router_accepting q item) i j (λ y there. subst (λ (z : Router). f (router_accepting q item z) ≡ f z) (Some_injective (sym router_at ∙ there)) same)

  -- the world after keeps what a world keeps, if the router does, and its machine has the attachment as before
  world_kept : RouterKept n p i r' → (machine_of r' p).attachment ≡ (machine_of r p).attachment → WorldKept n p v
  world_kept R' same = with_router n p (record w { links = changed_at x0.link (with_front_taken x0.end) w.links }) i (router_accepting q item)
      (λ y there. subst (λ (z : Router). RouterKept n p i (router_accepting q item z) × ((machine_of (router_accepting q item z) p).attachment ≡ (machine_of z p).attachment)) (Some_injective (sym router_at ∙ there)) (R', same))
      (with_links n p w x0.link (with_front_taken x0.end) (λ j. changed_side-ends x0.end (λ s. record s { inbox = drop 1 s.inbox }) j (λ s. refl)) K)

  -- what is published stays where the router leaves its published rows
  published_as : (r'.table).published ≡ (r.table).published → (j : ℕ) → new.published j ≡ old.published j
  published_as same = router_same (next_hop_at p) None (ap (λ (rows : List (Prefix × Entry)). option_and_then next_hop (row_of prefix_cmp p rows)) same)

  -- ---- nothing of the prefix

  -- an item of which the prefix hears nothing leaves all that is to be taken in the view
  inboxes_same : heard_item p item ≡ [] → (e : LinkEnd) → new.inbox e ≡ old.inbox e
  inboxes_same silent e = elim (place_cases e a) [
    | inl h ↦ subst (λ (z : LinkEnd). new.inbox z ≡ old.inbox z) (sym h) (inbox_now ∙ sym (inbox_was ∙ ap (λ xs. xs ++ heard p (drop 1 (side x0.end k).inbox)) silent))
    | inr h ↦ inbox_elsewhere e h
  ]

  -- an item of which the prefix hears nothing leaves the view as it was
  pub skipped : heard_item p item ≡ [] → Unmoved n p i r r' → Skip (topology n N) old new
  skipped silent U = record {
    machines = record { machine_same = router_same (λ y. machine_of y p) (opening_machine None []) U.machine_is; seen_same = λ e. router_same (λ y. session_at y.ports e.port) 0 (U.seen_is e.port) e.router };
    inboxes = record { inbox_same = inboxes_same silent };
    holdings = record { ripe_same = λ e. router_same (λ y. kept p e.port (ripe_of y)) [] (U.ripe_is e.port) e.router; unripe_same = λ e. router_same (λ y. kept p e.port (unripe_of y)) [] (U.unripe_is e.port) e.router };
    links = links_same;
    costs = costs_same;
    publications = record { published_same = published_as U.published_is; published_fd_same = λ j. refl };
  }

  -- and so is a step of the view that keeps what a world keeps
  pub skips : heard_item p item ≡ [] → Unmoved n p i r r' → StepKept n N p w pfd v pfd
  skips silent U = record { kept = world_kept U.keeps (ap (λ (m : Machine). m.attachment) U.machine_is); step = Skips (skipped silent U) }

  -- ---- an item that the prefix hears

  -- the view shows the machine of router i
  machine_was : old.machine i ≡ machine_of r p
  machine_was = on_router-there (λ y. machine_of y p) (opening_machine None []) w.routers i r router_at

  -- the view shows the session that router i saw at port a
  seen_was : old.seen a ≡ session_at r.ports q
  seen_was = on_router-there (λ y. session_at y.ports q) 0 w.routers i r router_at

  -- port q of router i lies at its place in the network
  listed_here : slice_get (places_from 0 i n.links) q ≡ Some x0
  listed_here = (laid n a x0 laid_a).listed

  -- port q is one of the ports of the router
  pub port_there : q < length r.ports
  port_there = (let c = kept_r.port_count in let lt = slice_get_within (places_from 0 i n.links) q x0 listed_here in omega (arith, c, lt))

  module _ (hears : SeenItem) (heard_is : heard_item p item ≡ hears ∷ []) where
    -- the front of what port a has to take is what the prefix hears of the item
    inbox_front : old.inbox a ≡ hears ∷ new.inbox a
    inbox_front = inbox_was ∙ ap (λ xs. xs ++ heard p (drop 1 (side x0.end k).inbox)) heard_is ∙ ap (λ xs. hears ∷ xs) (sym inbox_now)

    -- what port a has to take is in a lawful order, with the item first
    pub lawful_front : IsLawfulInbox (is_up_at (machine_of r p) q) (session_at r.ports q) (old.up a) (old.session a) (hears ∷ new.inbox a)
    lawful_front =
        let h : IsLawfulInbox (is_up_at (old.machine i) q) (old.seen a) (old.up a) (old.session a) (old.inbox a) = I.lawful a (ap is_some laid_a) in
        let h2 = subst (λ (xs : List SeenItem). IsLawfulInbox (is_up_at (old.machine i) q) (old.seen a) (old.up a) (old.session a) xs) inbox_front h in
        let h3 = subst (λ (m : Machine). IsLawfulInbox (is_up_at m q) (old.seen a) (old.up a) (old.session a) (hears ∷ new.inbox a)) machine_was h2 in
        subst (λ (s : ℕ). IsLawfulInbox (is_up_at (machine_of r p) q) s (old.up a) (old.session a) (hears ∷ new.inbox a)) seen_was h3

    -- the machine sends nothing to a port that is not there
    silent_beyond : Silent n i (reaction (machine_of r p) (event_of q hears)).sends
    silent_beyond =
        let m = machine_of r p in
        let sound : IsSound m = subst IsSound machine_was (I.sound i) in
        let ports : length m.ports ≡ length r.ports = kept_r.machine_ports in
        let there : q < length m.ports = (let t = port_there in omega (arith, ports, t)) in
        silent_to_none n p i r kept_r (laid n a x0 laid_a).known (event_of q hears) sound (meets_item machine_laws m q hears (new.inbox a) (session_at r.ports q) (old.session a) (old.up a) there lawful_front)

    -- an item that the prefix hears is taken in the view
    pub taken : Reacted n p i q hears r r' → NetTake (topology n N) old new
    taken Q = record {
      a = a;
      item = hears;
      valid_place = ap is_some laid_a;
      inbox_at = inbox_front;
      inbox_elsewhere = inbox_elsewhere;
      machine_at = on_router-there (λ y. machine_of y p) (opening_machine None []) v.routers i r' (new_at i refl) ∙ Q.met.machine_is ∙ ap (λ (m : Machine). (reaction m (event_of q hears)).machine) (sym machine_was);
      machine_elsewhere = λ j apart. on_router-miss (λ y. machine_of y p) (opening_machine None []) w.routers (router_accepting q item) i j apart;
      seen_at = on_router-there (λ y. session_at y.ports q) 0 v.routers i r' (new_at i refl) ∙ Q.seen_here ∙ ap (seen_after hears) (sym seen_was);
      seen_elsewhere = seen_beside;
      unripe_at = unripe_here;
      unripe_elsewhere = λ e apart. on_router-miss (λ y. kept p e.port (unripe_of y)) [] w.routers (router_accepting q item) i e.router apart;
      ripe_same = λ e. router_same (λ y. kept p e.port (ripe_of y)) [] (Q.met.ripe_is e.port) e.router;
      links = links_same;
      costs = costs_same;
      publications = record { published_same = published_as Q.met.published_is; published_fd_same = λ j. refl };
    }
      where
        seen_beside : (e : LinkEnd) → (e ≡ a → ⊥) → new.seen e ≡ old.seen e
        seen_beside e apart = elim (cases_eq e.router i) [
          | inl h ↦ on_router-there (λ y. session_at y.ports e.port) 0 v.routers e.router r' (new_at e.router h)
              ∙ Q.seen_beside e.port (λ g. apart (ap (λ (z : ℕ). at_port z e.port) h ∙ ap (λ (z : ℕ). at_port i z) g))
              ∙ sym (on_router-there (λ y. session_at y.ports e.port) 0 w.routers e.router r (old_at e.router h))
          | inr h ↦ on_router-miss (λ y. session_at y.ports e.port) 0 w.routers (router_accepting q item) i e.router h
        ]

        unripe_here : (e : LinkEnd) → e.router ≡ i → new.unripe e ≡ old.unripe e ++ held_for (new.seen e) (sent_to e.port (reaction (old.machine i) (event_of q hears)).sends)
        unripe_here e h =
            let unripe_is : kept p e.port (unripe_of r) ≡ old.unripe e = sym (on_router-there (λ y. kept p e.port (unripe_of y)) [] w.routers e.router r (old_at e.router h)) in
            let seen_is : session_at r'.ports e.port ≡ new.seen e = sym (on_router-there (λ y. session_at y.ports e.port) 0 v.routers e.router r' (new_at e.router h)) in
            let machine_is : machine_of r p ≡ old.machine i = sym machine_was in
            on_router-there (λ y. kept p e.port (unripe_of y)) [] v.routers e.router r' (new_at e.router h)
            ∙ Q.met.unripe_is e.port
            ∙ (λ z. unripe_is z ++ held_for (seen_is z) (sent_to e.port (reaction (machine_is z) (event_of q hears)).sends))

    -- which is what the prefix hears
    pub taken_item : (Q : Reacted n p i q hears r r') → (taken Q).item ≡ hears
    unfolding taken
    taken_item Q = refl

    -- and so is a step of the view that keeps what a world keeps
    pub takes : Reacted n p i q hears r r' → StepKept n N p w pfd v pfd
    takes Q = record {
      kept = world_kept (Q.met.keeps silent_beyond) (ap (λ (m : Machine). m.attachment) Q.met.machine_is ∙ machine_laws.keeps_attachment (machine_of r p) (event_of q hears) ∙ item_leaves q hears (machine_of r p).attachment);
      step = Takes (taken Q);
    }

-- ---- each item

-- the prefix hears a message of its own
pub one_word : (p : Prefix) (m : Message) → prefix_eq p m.prefix ≡ true → heard_item p (Item.Message m) ≡ Reported (msg_of m) ∷ []
one_word p m is = rw is refl

-- and none of another prefix
pub no_word : (p : Prefix) (m : Message) → prefix_eq p m.prefix ≡ false → heard_item p (Item.Message m) ≡ []
no_word p m is = rw is refl

module _ (n : Network) (N : IsWired n) (p : Prefix) (w : World) (pfd : ℕ → ℕ) (K : WorldKept n p w) (I : Invariant (topology n N) (view n p w pfd))
    (i q : ℕ) (x0 : Place) (laid_a : lay n (at_port i q) ≡ Some x0) (k : Link) (at : slice_get w.links x0.link ≡ Some k) (r : Router) (router_at : slice_get w.routers i ≡ Some r) where
  -- the world after this item is taken
  abbrev v_of : Item → World
  v_of item = record w { links = changed_at x0.link (with_front_taken x0.end) w.links; routers = changed_at i (router_accepting q item) w.routers }

  -- the session seen at a port that is there
  session_of : (x : Port) → slice_get r.ports q ≡ Some x → session_at r.ports q ≡ x.session
  session_of x there = ap (λ o. option_map_or (λ (y : Port). y.session) o 0) there

  -- the step Deliver is one of the view for each item, and keeps what a world keeps
  pub takes_item : (item : Item) → slice_get (side x0.end k).inbox 0 ≡ Some item → StepKept n N p w pfd (v_of item) pfd
  takes_item (Item.Up session cost) front =
      let R = K.routers_kept i r router_at in
      takes n N p w pfd K I i q x0 laid_a k at r router_at (Item.Up session cost) front (UpNotice session cost) refl
      (reacts_to_notice n p i r R q (port_there n N p w pfd K I i q x0 laid_a k at r router_at (Item.Up session cost) front) (UpNotice session cost)
      (λ y. record { up = true; session = session; cost = cost }) (up_opened r.ports q session cost) (λ x there. refl))
  takes_item (Item.Down session) front =
      let R = K.routers_kept i r router_at in
      let law = lawful_front n N p w pfd K I i q x0 laid_a k at r router_at (Item.Down session) front (DownNotice session) refl in
      takes n N p w pfd K I i q x0 laid_a k at r router_at (Item.Down session) front (DownNotice session) refl
      (reacts_to_notice n p i r R q (port_there n N p w pfd K I i q x0 laid_a k at r router_at (Item.Down session) front) (DownNotice session)
      (λ y. record y { up = false; session = session }) (down_opened r.ports q session) (λ x there. sym law.1 ∙ session_of x there))
  takes_item (Item.Cost session cost) front =
      let R = K.routers_kept i r router_at in
      let law = lawful_front n N p w pfd K I i q x0 laid_a k at r router_at (Item.Cost session cost) front (CostNotice session cost) refl in
      takes n N p w pfd K I i q x0 laid_a k at r router_at (Item.Cost session cost) front (CostNotice session cost) refl
      (reacts_to_notice n p i r R q (port_there n N p w pfd K I i q x0 laid_a k at r router_at (Item.Cost session cost) front) (CostNotice session cost)
      (λ y. record y { session = session; cost = cost }) (cost_opened r.ports q session cost) (λ x there. sym law.1 ∙ session_of x there))
  takes_item (Item.Message m) front = by_prefix (prefix_eq p m.prefix) refl
    where
      by_prefix : (b : Bool) → prefix_eq p m.prefix ≡ b → StepKept n N p w pfd (v_of (Item.Message m)) pfd
      by_prefix true is = takes n N p w pfd K I i q x0 laid_a k at r router_at (Item.Message m) front (Reported (msg_of m)) (one_word p m is) (reacts_to_message n p i r (K.routers_kept i r router_at) q m is)
      by_prefix false is = skips n N p w pfd K I i q x0 laid_a k at r router_at (Item.Message m) front (no_word p m is) (unmoved_by_message n p i r (K.routers_kept i r router_at) q m is)
