-- A router that takes a notice of its attachment takes it in the view too, or nothing of the prefix changes.
use Rattle.std.proofs.Common.{refl, sym, ap, subst, ◌∙◌, ◌≡◌, ℕ, suc, ◌<◌, Bool, true, false, if◌then◌else◌, List, [], ◌∷◌, ◌++◌, drop, Option, Some, None, slice_get, option_map, option_and_then}
use Rattle.no_packet_loops.proofs.Common.{option_map_or, Prefix, prefix_cmp, prefix_eq, IsCost, Machine, reaction, changed_at, opening_machine, attachment_after, event_at_home, Event, Notice, Entry, Router, Attachments, World, Network, machine_of, router_at_home, with_notice_taken, session_at, Some_injective, None_not_Some, slice_get-changed_at, slice_get-changed_at_other, LinkEnd, State, next_hop, kept, ripe_of, unripe_of, next_hop_at, view, IsSound, sent_to, machine_laws, TakesAtHome, Skips, held_for, meets_home, Invariant, find as row_of}
use Rattle.no_packet_loops.proofs.{Wiring.IsWired, Places.topology, View.on_router-there, View.on_router-miss, View.on_router-same, Taking.silent_to_none}
use Rattle.no_packet_loops.proofs.Kept.{RouterKept, AttachmentsKept, WorldKept, StepKept, attachment_then, each_changed}
use Rattle.no_packet_loops.proofs.Accepting.{Met, Unmoved, meets_here, unmoved_elsewhere}

-- a list whose first notice is x is x, and then the rest
front_notice : (x : Notice) (xs : List Notice) → slice_get xs 0 ≡ Some x → xs ≡ x ∷ drop 1 xs
front_notice x [] e = absurd (None_not_Some e)
front_notice x (y ∷ ys) e = ap (λ (z : Notice). z ∷ ys) (Some_injective e)

-- an event of the attachment makes of it what it says
home_is : (cost a : Option ℕ) → attachment_after (event_at_home cost) a ≡ cost
home_is None a = refl
home_is (Some c) a = refl

-- notices without the first are among the notices
later_notice : (xs : List Notice) (k : ℕ) (y : Notice) → slice_get (drop 1 xs) k ≡ Some y → slice_get xs (suc k) ≡ Some y
later_notice [] k y e = absurd (None_not_Some e)
later_notice (x ∷ xs) k y e = e

-- a router whose machine took the oldest notice, if it is of the prefix, is led on to the same record
taken_kept : (p : Prefix) (r r' : Router) (a : Attachments) (x : Notice) → slice_get a.notices 0 ≡ Some x → (machine_of r' p).attachment ≡ (if prefix_eq p x.prefix then x.cost else (machine_of r p).attachment)
    → AttachmentsKept p r a → AttachmentsKept p r' (with_notice_taken a)
taken_kept p r r' a x front is K = record {
  leads = ap (λ o. attachment_then p o (drop 1 a.notices)) is ∙ sym (ap (attachment_then p (machine_of r p).attachment) (front_notice x a.notices front)) ∙ K.leads;
  costs = K.costs;
  notice_costs = λ k y at. K.notice_costs (suc k) y (later_notice a.notices k y at);
}

module _ (n : Network) (N : IsWired n) (p : Prefix) (w : World) (pfd : ℕ → ℕ) (K : WorldKept n p w) (I : Invariant (topology n N) (view n p w pfd))
    (i : ℕ) (known : i < n.routers) (r : Router) (router_at : slice_get w.routers i ≡ Some r) (a : Attachments) (owns : slice_get w.attachments i ≡ Some a) (x : Notice) (front : slice_get a.notices 0 ≡ Some x) where
  -- the view before
  abbrev old : State
  old = view n p w pfd

  -- the world after the notice is taken
  abbrev v : World
  v = record w { attachments = changed_at i with_notice_taken w.attachments; routers = changed_at i (router_at_home x) w.routers }

  -- the view after
  abbrev new : State
  new = view n p v pfd

  -- the router after the notice is taken
  abbrev r' : Router
  r' = router_at_home x r

  -- the event that the notice is to the machine of its prefix
  abbrev event : Event
  event = event_at_home x.cost

  -- the router before keeps what a router keeps
  kept_r : RouterKept n p i r
  kept_r = K.routers_kept i r router_at

  -- router i is then the router that took the notice
  new_at : (j : ℕ) → j ≡ i → slice_get v.routers j ≡ Some r'
  new_at j e = ap (slice_get v.routers) e ∙ slice_get-changed_at (router_at_home x) i w.routers ∙ ap (option_map (router_at_home x)) router_at

  old_at : (j : ℕ) → j ≡ i → slice_get w.routers j ≡ Some r
  old_at j e = ap (slice_get w.routers) e ∙ router_at

  -- what holds of router i before and after alike is seen of all routers as before
  router_same : {X : Type 0} (f : Router → X) (d : X) → f r' ≡ f r → (j : ℕ) → option_map_or f (slice_get v.routers j) d ≡ option_map_or f (slice_get w.routers j) d
  router_same f d same j = on_router-same f d w.routers (router_at_home x) i j (λ y there. subst (λ (z : Router). f (router_at_home x z) ≡ f z) (Some_injective (sym router_at ∙ there)) same)

  -- the world after keeps what a world keeps, if the router does, and its machine took the notice if it is of the prefix
  world_kept : RouterKept n p i r' → (machine_of r' p).attachment ≡ (if prefix_eq p x.prefix then x.cost else (machine_of r p).attachment) → WorldKept n p v
  world_kept R' is = record {
    places_same = K.places_same;
    ends_same = K.ends_same;
    routers_kept = each_changed (RouterKept n p) i (router_at_home x) w.routers
        (λ y there. subst (λ (z : Router). RouterKept n p i (router_at_home x z)) (Some_injective (sym router_at ∙ there)) R') (λ j y d there. K.routers_kept j y there);
    attachments_kept = λ j y b at has. each_changed (λ m z. (c : Attachments) → slice_get v.attachments m ≡ Some c → AttachmentsKept p z c) i (router_at_home x) w.routers here beside j y at b has;
  }
    where
      here : (y : Router) → slice_get w.routers i ≡ Some y → (c : Attachments) → slice_get v.attachments i ≡ Some c → AttachmentsKept p (router_at_home x y) c
      here y there c has =
          let same : r ≡ y = Some_injective (sym router_at ∙ there) in
          let taken : with_notice_taken a ≡ c = Some_injective (sym (slice_get-changed_at with_notice_taken i w.attachments ∙ ap (option_map with_notice_taken) owns) ∙ has) in
          subst (λ (z : Router). AttachmentsKept p (router_at_home x z) c) same (subst (λ (b : Attachments). AttachmentsKept p r' b) taken (taken_kept p r r' a x front is (K.attachments_kept i r a router_at owns)))

      beside : (j : ℕ) (y : Router) → (j ≡ i → ⊥) → slice_get w.routers j ≡ Some y → (c : Attachments) → slice_get v.attachments j ≡ Some c → AttachmentsKept p y c
      beside j y d there c has = K.attachments_kept j y c there (sym (slice_get-changed_at_other with_notice_taken i j w.attachments d) ∙ has)

  -- what is published stays
  published_as : (r'.table).published ≡ (r.table).published → (j : ℕ) → new.published j ≡ old.published j
  published_as same = router_same (next_hop_at p) None (ap (λ (rows : List (Prefix × Entry)). option_and_then next_hop (row_of prefix_cmp p rows)) same)

  -- a notice of another prefix leaves the view as it was
  skips : prefix_eq p x.prefix ≡ false → Unmoved n p i r r' → StepKept n N p w pfd v pfd
  skips apart U = record {
    kept = world_kept U.keeps (ap (λ (m : Machine). m.attachment) U.machine_is ∙ sym (ap (λ b. if b then x.cost else (machine_of r p).attachment) apart));
    step = Skips (record {
      machines = record { machine_same = router_same (λ y. machine_of y p) (opening_machine None []) U.machine_is; seen_same = λ e. router_same (λ y. session_at y.ports e.port) 0 (U.seen_is e.port) e.router };
      inboxes = record { inbox_same = λ e. refl };
      holdings = record { ripe_same = λ e. router_same (λ y. kept p e.port (ripe_of y)) [] (U.ripe_is e.port) e.router; unripe_same = λ e. router_same (λ y. kept p e.port (unripe_of y)) [] (U.unripe_is e.port) e.router };
      links = record { up_same = λ e. refl; session_same = λ e. refl };
      costs = record { cost_same = λ e. refl };
      publications = record { published_same = published_as U.published_is; published_fd_same = λ j. refl };
    });
  }

  -- the view shows the machine of router i
  machine_was : old.machine i ≡ machine_of r p
  machine_was = on_router-there (λ y. machine_of y p) (opening_machine None []) w.routers i r router_at

  -- the cost in the notice is a cost
  positive : (c : ℕ) → x.cost ≡ Some c → 0 < c
  positive c is = let good : IsCost c = (K.attachments_kept i r a router_at owns).notice_costs 0 x front c is in good.positive

  -- a notice of the prefix is taken in the view
  takes : prefix_eq p x.prefix ≡ true → Met n p i event r r' → StepKept n N p w pfd v pfd
  takes same Q = record {
    kept = world_kept (Q.keeps (silent_to_none n p i r kept_r known event (subst IsSound machine_was (I.sound i)) (meets_home (machine_of r p) x.cost positive)))
        (ap (λ (m : Machine). m.attachment) Q.machine_is ∙ machine_laws.keeps_attachment (machine_of r p) event ∙ home_is x.cost (machine_of r p).attachment
        ∙ sym (ap (λ b. if b then x.cost else (machine_of r p).attachment) same));
    step = TakesAtHome (record {
      i = i;
      notice = x.cost;
      positive = positive;
      machine_at = on_router-there (λ y. machine_of y p) (opening_machine None []) v.routers i r' (new_at i refl) ∙ Q.machine_is ∙ ap (λ (m : Machine). (reaction m event).machine) (sym machine_was);
      machine_elsewhere = λ j apart. on_router-miss (λ y. machine_of y p) (opening_machine None []) w.routers (router_at_home x) i j apart;
      unripe_at = unripe_here;
      unripe_elsewhere = λ e apart. on_router-miss (λ y. kept p e.port (unripe_of y)) [] w.routers (router_at_home x) i e.router apart;
      seen_same = λ e. router_same (λ y. session_at y.ports e.port) 0 refl e.router;
      ripe_same = λ e. router_same (λ y. kept p e.port (ripe_of y)) [] (Q.ripe_is e.port) e.router;
      inboxes = record { inbox_same = λ e. refl };
      links = record { up_same = λ e. refl; session_same = λ e. refl };
      costs = record { cost_same = λ e. refl };
      publications = record { published_same = published_as Q.published_is; published_fd_same = λ j. refl };
    });
  }
    where
      unripe_here : (e : LinkEnd) → e.router ≡ i → new.unripe e ≡ old.unripe e ++ held_for (old.seen e) (sent_to e.port (reaction (old.machine i) event).sends)
      unripe_here e h =
          let unripe_is : kept p e.port (unripe_of r) ≡ old.unripe e = sym (on_router-there (λ y. kept p e.port (unripe_of y)) [] w.routers e.router r (old_at e.router h)) in
          let seen_is : session_at r.ports e.port ≡ old.seen e = sym (on_router-there (λ y. session_at y.ports e.port) 0 w.routers e.router r (old_at e.router h)) in
          let machine_is : machine_of r p ≡ old.machine i = sym machine_was in
          on_router-there (λ y. kept p e.port (unripe_of y)) [] v.routers e.router r' (new_at e.router h)
          ∙ Q.unripe_is e.port
          ∙ (λ z. unripe_is z ++ held_for (seen_is z) (sent_to e.port (reaction (machine_is z) event).sends))

  -- the step Deliver at the attachments is one of the view, and keeps what a world keeps
  pub takes_notice : StepKept n N p w pfd v pfd
  takes_notice = by_prefix (prefix_eq p x.prefix) refl
    where
      by_prefix : (b : Bool) → prefix_eq p x.prefix ≡ b → StepKept n N p w pfd v pfd
      by_prefix true is = takes is (meets_here n p i r kept_r x.prefix event is)
      by_prefix false is = skips is (unmoved_elsewhere n p i r kept_r x.prefix event is)
