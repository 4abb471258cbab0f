-- What each thing that still happens does to what one prefix sees: nothing counts more, or a message makes it fall.
use Rattle.std.proofs.Common.{refl, sym, ap, subst, ◌∙◌, arith, inl, inr, ◌≡◌, ◌≢◌, ℕ, ◌<◌, ◌≤◌, Bool, true, false, ◌&&◌, ◌==◌, if◌then◌else◌, List, [], ◌∷◌, ◌++◌, Option, Some, None, option_map, slice_get, append-nil, eq-eqb, ne_eqb}
use Rattle.no_packet_loops.proofs.Common.{option_map_or, and_from, and_right, and_left, Prefix, prefix_eq, Item, Held, Port, Router, Machine, Neighbour, Event, changed_at, test_at, slice_get-changed_at, slice_get-changed_at_other, machine_of, reaction, session_at, router_accepting, router_publishing, router_releasing, ripe_front, next_hop_at, is_kept, held_as, kept, ripe_of, unripe_of, msg_of, sent_to, held_for, IsSound, Reported, Topology, LinkEnd, at_port, place_cases, eqb_sym, machine_laws, messages}
use Rattle.network_model.proofs.Common.{cases_eq, both_ways, SeenHeld, Report, infinity}
use Rattle.loop_freedom.specs.Network.{Publish as NetPublish, Release as NetRelease}
use Rattle.no_packet_loops.proofs.Publishing.{control_hop}
use Rattle.c_interface.specs.Faults.{first_of}
use Rattle.single_router.specs.Inputs.{told_fault, message_fault, kind_fault, attachment_of}
use Rattle.daemon_laws.proofs.{Quiet.attachment_is, Seen.carried, Seen.carried-append, Routers.RouterKept, Routers.Unmoved, Routers.unmoved_elsewhere, Items.took_message, Telling.passed, Telling.neither, Telling.message_passes, Moving.Took, Publishing.ripe_all, Publishing.unripe_none, Releasing.as_carried, Steps.coming_here, Steps.coming_away}
use Rattle.single_router.specs.declared.input.Input.TheVariants as input
use Rattle.coming_to_rest.specs.Rest.{IsFinite}
use Rattle.coming_to_rest.proofs.{Weights.changes, Weights.changes_without, Weights.load, Calm.IsCalm, Sums.ends_less, Sums.ends_but_one, Takes.TakesMessage, Takes.MessageEffect, Takes.message_effect, Publishes.publish_weight, Publishes.publish_loads, Releases.release_weight, Releases.release_loads}
use Rattle.coming_to_rest.proofs.Measure.{on_way, weight, inbox_load, held_load, loads, le_same}
use Rattle.daemon_laws.specs.{Processes.Carried, Processes.Processes, Packets.is_in_session, Happenings.sent_from, Happenings.with_coming}
use Rattle.no_packet_loops.proofs.Releasing.{Front, front_of, ripe_front_is, unripe_left}
use Rattle.daemons_come_to_rest.proofs.Shown.{reported, reported-append, shown, stale_of, stale, stales, stales_same, NoMore, no_more_weight, no_more_load, Alike, alike_weight, alike_loads}

-- a message as the prefix sees it
abbrev pub as_seen : Carried → SeenHeld
as_seen c = record { session = c.session; message = msg_of c.message }

-- no more counts of the prefix in v than in w, and the load is no greater
pub record Less (t : Topology) (n d : ℕ) (p : Prefix) (w v : Processes) : Type 0 where
  pub weights : (u : ℕ) → weight t n d (shown p v) u ≤ weight t n d (shown p w) u
  pub load_less : loads t n d (shown p v) ≤ loads t n d (shown p w)
  pub stale_less : stales t n d (shown p v) ≤ stales t n d (shown p w)

-- nothing of the prefix is other
pub alike_less : (t : Topology) (n d : ℕ) (p : Prefix) (w v : Processes) → Alike (shown p w) (shown p v) → Less t n d p w v
alike_less t n d p w v A = record { weights = alike_weight t n d (shown p w) (shown p v) A; load_less = alike_loads t n d (shown p w) (shown p v) A; stale_less = stales_same t n d (shown p w) (shown p v) A.machine_same }

-- where one router is changed, what f says of it stays, and so it stays of each
pub stays_of : (w v : Processes) (i : ℕ) (r' : Router) → v.routers i ≡ r' → ((j : ℕ) → j ≢ i → v.routers j ≡ w.routers j) → {X : Type 0} (f : Router → X) → f r' ≡ f (w.routers i) → (j : ℕ) → f (v.routers j) ≡ f (w.routers j)
stays_of w v i r' here away f same j = elim (cases_eq j i) [
  | inl e ↦ ap (λ (k : ℕ). f (v.routers k)) e ∙ ap f here ∙ same ∙ ap (λ (k : ℕ). f (w.routers k)) (sym e)
  | inr d ↦ ap f (away j d)
]

-- ---- a message is dropped

-- the oldest message on its way to an end is on its way no longer, and nothing else changes
pub record Drops (t : Topology) (w v : Processes) : Type 0 where
  pub e : LinkEnd
  pub c : Carried
  pub valid_place : t.valid e ≡ true
  pub came : w.coming e ≡ c ∷ v.coming e
  pub coming_elsewhere : (d : LinkEnd) → (d ≡ e → ⊥) → v.coming d ≡ w.coming d
  pub routers_same : (j : ℕ) → v.routers j ≡ w.routers j

module _ (t : Topology) (F : IsFinite t) (p : Prefix) (w v : Processes) (D : Drops t w v) where
  -- the rest, as the prefix sees it
  abbrev rest : List SeenHeld
  rest = carried p (v.coming D.e)

  -- what came is the message, if it is of the prefix, and the rest
  came_seen : carried p (w.coming D.e) ≡ (if prefix_eq p ((D.c).message).prefix then as_seen D.c ∷ rest else rest)
  came_seen = ap (carried p) D.came

  -- one value fewer counts no more
  one_fewer : (b : Bool) (u cost x y : ℕ) (more : List Report) → changes u cost x y (messages (reported rest) ++ more) ≤ changes u cost x y (messages (reported (if b then as_seen D.c ∷ rest else rest)) ++ more)
  one_fewer true u cost x y more = changes_without u cost x y [] (messages (reported rest) ++ more) (msg_of (D.c).message)
  one_fewer false u cost x y more = omega arith

  -- no more is on its way to an end
  drop_no_more : NoMore t (shown p w) (shown p v)
  drop_no_more d valid u cost x y = elim (place_cases d D.e) [
    | inl is ↦ subst (λ z. changes u cost x y (on_way t (shown p v) z) ≤ changes u cost x y (on_way t (shown p w) z)) (sym is)
        (rw (D.routers_same (t.far D.e).router, came_seen) (one_fewer (prefix_eq p ((D.c).message).prefix) u cost x y _))
    | inr ne ↦ rw (D.routers_same (t.far d).router, D.coming_elsewhere d ne) (omega arith)
  ]

  -- nor is the load greater there
  inbox_less : (d : LinkEnd) → inbox_load (shown p v) d ≤ inbox_load (shown p w) d
  inbox_less d = elim (place_cases d D.e) [
    | inl is ↦ subst (λ z. inbox_load (shown p v) z ≤ inbox_load (shown p w) z) (sym is) (rw came_seen (by_test (prefix_eq p ((D.c).message).prefix)))
    | inr ne ↦ rw (D.coming_elsewhere d ne) (omega arith)
  ]
    where
      by_test : (b : Bool) → load (messages (reported rest)) ≤ load (messages (reported (if b then as_seen D.c ∷ rest else rest)))
      by_test true = omega arith
      by_test false = omega arith

  -- as much is held
  held_same : (d : LinkEnd) → held_load (shown p v) d ≤ held_load (shown p w) d
  held_same d = rw (D.routers_same d.router) (omega arith)

  -- no more counts
  pub drop_less : Less t F.routers F.ports p w v
  drop_less = record {
    weights = no_more_weight t F.routers F.ports (shown p w) (shown p v) (λ i. ap (λ (r : Router). machine_of r p) (D.routers_same i)) drop_no_more;
    load_less = no_more_load t F.routers F.ports (shown p w) (shown p v) (λ d valid. inbox_less d) (λ d valid. held_same d);
    stale_less = stales_same t F.routers F.ports (shown p w) (shown p v) (λ i. ap (λ (r : Router). machine_of r p) (D.routers_same i));
  }

  -- of the message's own prefix the load is less
  pub drop_load : prefix_eq p ((D.c).message).prefix ≡ true → loads t F.routers F.ports (shown p v) < loads t F.routers F.ports (shown p w)
  drop_load same =
      let within = F.within D.e D.valid_place in
      let inboxes = ends_but_one t F.routers F.ports D.e (inbox_load (shown p v)) (inbox_load (shown p w)) D.valid_place within.0 within.1 (λ d valid ne. inbox_less d) in
      let helds = ends_less t F.routers F.ports (held_load (shown p v)) (held_load (shown p w)) (λ d valid. held_same d) in
      let here : inbox_load (shown p v) D.e < inbox_load (shown p w) D.e = rw (came_seen, same) (omega arith) in
      omega (arith, inboxes, helds, here)

-- ---- a message is taken

-- the oldest message on its way to an end is taken there
pub record TakesOne (t : Topology) (w v : Processes) : Type 0 where
  pub e : LinkEnd
  pub c : Carried
  pub valid_place : t.valid e ≡ true
  pub came : w.coming e ≡ c ∷ v.coming e
  pub coming_elsewhere : (d : LinkEnd) → (d ≡ e → ⊥) → v.coming d ≡ w.coming d
  pub no_fault : told_fault (input.Message e.port c.session c.message) (w.routers e.router) ≡ None
  pub router_is : v.routers e.router ≡ router_accepting e.port (Item.Message c.message) (w.routers e.router)
  pub routers_elsewhere : (j : ℕ) → j ≢ e.router → v.routers j ≡ w.routers j

module _ (t : Topology) (F : IsFinite t) (p : Prefix) (w v : Processes) (T : TakesOne t w v) (keeps : RouterKept p (w.routers (T.e).router)) where
  -- the router, its port, the message
  abbrev r : Router
  r = w.routers (T.e).router

  abbrev q : ℕ
  q = (T.e).port

  abbrev r' : Router
  r' = router_accepting (T.e).port (Item.Message (T.c).message) (w.routers (T.e).router)

  -- the machine of the prefix takes it, if it is of the prefix
  took : prefix_eq p ((T.c).message).prefix ≡ true → ((T.c).message).value ≤ infinity → Took p q (Reported (msg_of (T.c).message)) r r'
  took same bounded =
      let fault = kind_fault (machine_of r ((T.c).message).prefix).computation q ((T.c).message).kind in
      let P = passed (slice_get r.ports q) (λ x. first_of (message_fault (T.c).session x) fault) T.no_fault in
      took_message p r keeps q P.port P.there (T.c).message same (message_passes (T.c).session P.port (neither (message_fault (T.c).session P.port) fault P.passes).0).0 bounded

  module _ (same : prefix_eq p ((T.c).message).prefix ≡ true) (bounded : ((T.c).message).value ≤ infinity) where
    unripe_here : (d : LinkEnd) → d.router ≡ (T.e).router
        → kept p d.port (unripe_of (v.routers d.router)) ≡ kept p d.port (unripe_of (w.routers d.router)) ++ held_for (session_at (v.routers d.router).ports d.port) (sent_to d.port (reaction (machine_of r p) (Event.Message q ((T.c).message).kind ((T.c).message).value)).sends)
    unripe_here d is =
        let ss = (reaction (machine_of r p) (Event.Message q ((T.c).message).kind ((T.c).message).value)).sends in
        subst (λ (y : Router). kept p d.port (unripe_of y) ≡ kept p d.port (unripe_of (w.routers d.router)) ++ held_for (session_at y.ports d.port) (sent_to d.port ss)) (sym (ap v.routers is ∙ T.router_is))
        (subst (λ (y : Router). kept p d.port (unripe_of r') ≡ kept p d.port (unripe_of y) ++ held_for (session_at r'.ports d.port) (sent_to d.port ss)) (sym (ap w.routers is)) ((took same bounded).met.unripe_is d.port))

    -- so the prefix sees a router take a message
    taken_seen : TakesMessage t (shown p w) (shown p v)
    taken_seen = record {
      a = T.e;
      message = msg_of (T.c).message;
      valid_place = T.valid_place;
      inbox_at = ap (λ cs. reported (carried p cs)) T.came ∙ ap (λ b. reported (if b then as_seen T.c ∷ carried p (v.coming T.e) else carried p (v.coming T.e))) same;
      inbox_elsewhere = λ d ne. ap (λ cs. reported (carried p cs)) (T.coming_elsewhere d ne);
      machine_at = ap (λ (y : Router). machine_of y p) T.router_is ∙ (took same bounded).met.machine_is;
      machine_elsewhere = λ j ne. ap (λ (y : Router). machine_of y p) (T.routers_elsewhere j ne);
      unripe_at = unripe_here;
      unripe_elsewhere = λ d ne. ap (λ (y : Router). kept p d.port (unripe_of y)) (T.routers_elsewhere d.router ne);
      ripe_same = λ d. stays_of w v (T.e).router r' T.router_is T.routers_elsewhere (λ (y : Router). kept p d.port (ripe_of y)) ((took same bounded).met.ripe_is d.port) d.router;
    }

    -- and what counts falls, or the load
    pub taken_effect : ((i : ℕ) → IsSound (machine_of (w.routers i) p)) → IsCalm (machine_of r p) → MessageEffect t F.routers F.ports (shown p w) (shown p v)
    unfolding taken_seen
    taken_effect sound calm = message_effect t F (shown p w) (shown p v) taken_seen sound calm (took same bounded).meets

    -- at the port of the message, which is up, nothing is stale, and elsewhere no report changes
    pub taken_stale : stales t F.routers F.ports (shown p v) ≤ stales t F.routers F.ports (shown p w)
    taken_stale = ends_less t F.routers F.ports (stale (shown p v)) (stale (shown p w)) (λ d valid. at_end d)
      where
        ports_are : (machine_of (v.routers (T.e).router) p).ports ≡ changed_at q (λ n. record { up = n.up; cost = n.cost; reported = ((T.c).message).value }) (machine_of r p).ports
        ports_are =
            ap (λ (y : Router). (machine_of y p).ports) T.router_is
            ∙ ap (λ (m : Machine). m.ports) (took same bounded).met.machine_is
            ∙ machine_laws.keeps_records (machine_of r p) (Event.Message q ((T.c).message).kind ((T.c).message).value)

        at_up : (o : Option Neighbour) → test_at (λ (n : Neighbour). n.up) o ≡ true → stale_of (option_map (λ n. record { up = n.up; cost = n.cost; reported = ((T.c).message).value }) o) ≤ stale_of o
        at_up None up = omega arith
        at_up (Some n) up = rw up (omega arith)

        at_port_of : (j : ℕ) → stale_of (slice_get (machine_of (v.routers (T.e).router) p).ports j) ≤ stale_of (slice_get (machine_of r p).ports j)
        at_port_of j = elim (cases_eq j q) [
          | inl is ↦ subst (λ (k : ℕ). stale_of (slice_get (machine_of (v.routers (T.e).router) p).ports k) ≤ stale_of (slice_get (machine_of r p).ports k)) (sym is)
              (subst (λ o. stale_of o ≤ stale_of (slice_get (machine_of r p).ports q)) (sym (ap (λ ns. slice_get ns q) ports_are ∙ slice_get-changed_at _ q (machine_of r p).ports))
              (at_up (slice_get (machine_of r p).ports q) (took same bounded).meets.0))
          | inr ne ↦ le_same (ap stale_of (ap (λ ns. slice_get ns j) ports_are ∙ slice_get-changed_at_other _ q j (machine_of r p).ports ne))
        ]

        at_end : (d : LinkEnd) → stale (shown p v) d ≤ stale (shown p w) d
        at_end d = elim (cases_eq d.router (T.e).router) [
          | inl is ↦ subst (λ (k : ℕ). stale_of (slice_get (machine_of (v.routers k) p).ports d.port) ≤ stale_of (slice_get (machine_of (w.routers k) p).ports d.port)) (sym is) (at_port_of d.port)
          | inr ne ↦ le_same (ap (λ (y : Router). stale_of (slice_get (machine_of y p).ports d.port)) (T.routers_elsewhere d.router ne))
        ]

  -- the attachment of the router stays
  attachment_same : ((T.c).message).value ≤ infinity → attachment_of r' p ≡ attachment_of r p
  attachment_same bounded = attachment_is p r' ∙ by_prefix (prefix_eq p ((T.c).message).prefix) refl ∙ sym (attachment_is p r)
    where
      by_prefix : (b : Bool) → prefix_eq p ((T.c).message).prefix ≡ b → (machine_of r' p).attachment ≡ (machine_of r p).attachment
      by_prefix true same =
          ap (λ (m : Machine). m.attachment) (took same bounded).met.machine_is
          ∙ machine_laws.keeps_attachment (machine_of r p) (Event.Message q ((T.c).message).kind ((T.c).message).value)
      by_prefix false apart =
          ap (λ (m : Machine). m.attachment)
          (unmoved_elsewhere p r keeps ((T.c).message).prefix (Event.Message q ((T.c).message).kind ((T.c).message).value) apart).machine_is

  pub taken_attachment : ((T.c).message).value ≤ infinity → (j : ℕ) → attachment_of (v.routers j) p ≡ attachment_of (w.routers j) p
  taken_attachment bounded = stays_of w v (T.e).router r' T.router_is T.routers_elsewhere (λ (y : Router). attachment_of y p) (attachment_same bounded)

  -- nothing changes of another prefix
  pub taken_other : prefix_eq p ((T.c).message).prefix ≡ false → Less t F.routers F.ports p w v
  taken_other apart =
      let U : Unmoved p r r' = unmoved_elsewhere p r keeps ((T.c).message).prefix (Event.Message q ((T.c).message).kind ((T.c).message).value) apart in
      alike_less t F.routers F.ports p w v (record {
        machine_same = stays_of w v (T.e).router r' T.router_is T.routers_elsewhere (λ (y : Router). machine_of y p) U.machine_is;
        inbox_same = inbox_same;
        ripe_same = λ d. stays_of w v (T.e).router r' T.router_is T.routers_elsewhere (λ (y : Router). kept p d.port (ripe_of y)) (U.ripe_is d.port) d.router;
        unripe_same = λ d. stays_of w v (T.e).router r' T.router_is T.routers_elsewhere (λ (y : Router). kept p d.port (unripe_of y)) (U.unripe_is d.port) d.router;
      })
    where
      inbox_same : (d : LinkEnd) → reported (carried p (v.coming d)) ≡ reported (carried p (w.coming d))
      inbox_same d = elim (place_cases d T.e) [
        | inl is ↦ subst (λ z. reported (carried p (v.coming z)) ≡ reported (carried p (w.coming z))) (sym is)
            (sym (ap (λ cs. reported (carried p cs)) T.came ∙ ap (λ b. reported (if b then as_seen T.c ∷ carried p (v.coming T.e) else carried p (v.coming T.e))) apart))
        | inr ne ↦ ap (λ cs. reported (carried p cs)) (T.coming_elsewhere d ne)
      ]

-- ---- a router publishes

-- one router publishes
pub record PublishesOne (w v : Processes) : Type 0 where
  pub i : ℕ
  pub router_is : v.routers i ≡ router_publishing (w.routers i)
  pub routers_elsewhere : (j : ℕ) → j ≢ i → v.routers j ≡ w.routers j
  pub coming_same : (e : LinkEnd) → v.coming e ≡ w.coming e

module _ (t : Topology) (n d : ℕ) (p : Prefix) (w v : Processes) (P : PublishesOne w v) (keeps : RouterKept p (w.routers P.i)) (sound : IsSound (machine_of (w.routers P.i) p)) where
  -- what a publication leaves of each router
  pub_stays : {X : Type 0} (f : Router → X) → f (router_publishing (w.routers P.i)) ≡ f (w.routers P.i) → (j : ℕ) → f (v.routers j) ≡ f (w.routers j)
  pub_stays f same j = stays_of w v P.i (router_publishing (w.routers P.i)) P.router_is P.routers_elsewhere f same j

  -- all that it held is ripe
  ripe_here : (e : LinkEnd) → e.router ≡ P.i → kept p e.port (ripe_of (v.routers e.router)) ≡ kept p e.port (ripe_of (w.routers e.router)) ++ kept p e.port (unripe_of (w.routers e.router))
  ripe_here e is =
      ap (λ (y : Router). kept p e.port (ripe_of y)) (ap v.routers is ∙ P.router_is) ∙ ripe_all p (w.routers P.i) keeps sound e.port
      ∙ ap (λ (y : Router). kept p e.port (ripe_of y) ++ kept p e.port (unripe_of y)) (sym (ap w.routers is))

  -- so the prefix sees it publish
  published_seen : NetPublish t (shown p w) (shown p v)
  published_seen = record {
    j = P.i;
    published_at = ap (λ (y : Router). next_hop_at p y) P.router_is ∙ control_hop p (w.routers P.i) (λ q. session_at (w.routers P.i).ports q) keeps.control_is (λ q. refl);
    published_fd_at = ap (λ (y : Router). (machine_of y p).fd) P.router_is;
    published_elsewhere = λ j ne. ap (λ (y : Router). next_hop_at p y) (P.routers_elsewhere j ne);
    published_fd_elsewhere = λ j ne. ap (λ (y : Router). (machine_of y p).fd) (P.routers_elsewhere j ne);
    ripe_at = ripe_here;
    unripe_at = λ e is. ap (λ (y : Router). kept p e.port (unripe_of y)) (ap v.routers is ∙ P.router_is) ∙ unripe_none p (w.routers P.i) keeps sound e.port;
    ripe_elsewhere = λ e ne. ap (λ (y : Router). kept p e.port (ripe_of y)) (P.routers_elsewhere e.router ne);
    unripe_elsewhere = λ e ne. ap (λ (y : Router). kept p e.port (unripe_of y)) (P.routers_elsewhere e.router ne);
    machines = record { machine_same = pub_stays (λ (y : Router). machine_of y p) refl; seen_same = λ e. pub_stays (λ (y : Router). session_at y.ports e.port) refl e.router };
    inboxes = record { inbox_same = λ e. ap (λ cs. reported (carried p cs)) (P.coming_same e) };
    links = record {
      up_same = λ e. pub_stays (λ (y : Router). option_map_or (λ (x : Port). x.up) (slice_get y.ports e.port) false) refl e.router;
      session_same = λ e. pub_stays (λ (y : Router). session_at y.ports e.port) refl e.router;
    };
    costs = record { cost_same = λ e. refl };
  }

  -- and no more counts
  pub publish_less : Less t n d p w v
  publish_less = record { weights = λ u. publish_weight t (shown p w) (shown p v) published_seen n d u; load_less = publish_loads t (shown p w) (shown p v) published_seen n d; stale_less = stales_same t n d (shown p w) (shown p v) (pub_stays (λ (y : Router). machine_of y p) refl) }

-- ---- a router releases a message

-- one router releases a message
pub record ReleasesOne (t : Topology) (w v : Processes) : Type 0 where
  pub i : ℕ
  pub h : Held
  pub front : ripe_front (w.routers i) ≡ Some h
  pub router_is : v.routers i ≡ router_releasing (w.routers i)
  pub routers_elsewhere : (j : ℕ) → j ≢ i → v.routers j ≡ w.routers j
  pub coming_is : (e : LinkEnd) → v.coming e ≡ sent_from t w (at_port i h.port) h e

module _ (t : Topology) (F : IsFinite t) (p : Prefix) (w v : Processes) (R : ReleasesOne t w v) where
  -- the end from which it goes
  abbrev a : LinkEnd
  a = at_port R.i (R.h).port

  -- what a release leaves of each router
  rel_stays : {X : Type 0} (f : Router → X) → f (router_releasing (w.routers R.i)) ≡ f (w.routers R.i) → (j : ℕ) → f (v.routers j) ≡ f (w.routers j)
  rel_stays f same j = stays_of w v R.i (router_releasing (w.routers R.i)) R.router_is R.routers_elsewhere f same j

  -- the message is the oldest, and ripe
  oldest : Front (w.routers R.i) R.h
  oldest = front_of (w.routers R.i) R.h R.front

  -- what was ripe for a port, with the message, if it is kept there
  ripe_was : (q : ℕ) → kept p q (ripe_of (w.routers R.i)) ≡ (if is_kept p q R.h then held_as R.h ∷ kept p q (ripe_of (router_releasing (w.routers R.i))) else kept p q (ripe_of (router_releasing (w.routers R.i))))
  ripe_was q = ap (kept p q) (ripe_front_is (w.routers R.i) R.h oldest)

  -- what is not ripe stays
  unripe_same : (e : LinkEnd) → kept p e.port (unripe_of (v.routers e.router)) ≡ kept p e.port (unripe_of (w.routers e.router))
  unripe_same e = rel_stays (λ (y : Router). kept p e.port (unripe_of y)) (ap (kept p e.port) (unripe_left (w.routers R.i) R.h oldest)) e.router

  -- what is ripe stays where the message is not kept
  ripe_beside : (e : LinkEnd) → (e.router ≡ R.i → is_kept p e.port R.h ≡ false) → kept p e.port (ripe_of (v.routers e.router)) ≡ kept p e.port (ripe_of (w.routers e.router))
  ripe_beside e off = elim (cases_eq e.router R.i) [
    | inl is ↦ rel_stays (λ (y : Router). kept p e.port (ripe_of y))
        (sym (ripe_was e.port ∙ ap (λ b. if b then held_as R.h ∷ kept p e.port (ripe_of (router_releasing (w.routers R.i))) else kept p e.port (ripe_of (router_releasing (w.routers R.i)))) (off is))) e.router
    | inr d ↦ ap (λ (y : Router). kept p e.port (ripe_of y)) (R.routers_elsewhere e.router d)
  ]

  -- at another end it is not kept
  not_kept : (e : LinkEnd) → (e ≡ a → ⊥) → e.router ≡ R.i → is_kept p e.port R.h ≡ false
  not_kept e ne is = and_left ((R.h).port == e.port) (prefix_eq p ((R.h).message).prefix)
      (ne_eqb (R.h).port e.port (λ s. ne (ap (λ (k : ℕ). at_port k e.port) is ∙ ap (λ (k : ℕ). at_port R.i k) (sym s))))

  -- of another prefix nothing changes
  other_less : prefix_eq p ((R.h).message).prefix ≡ false → Less t F.routers F.ports p w v
  other_less apart = alike_less t F.routers F.ports p w v (record {
    machine_same = rel_stays (λ (y : Router). machine_of y p) refl;
    inbox_same = λ e. ap (λ cs. reported (carried p cs)) (R.coming_is e) ∙ ap reported (sent_alike e (t.valid a && is_in_session w a (R.h).session));
    ripe_same = λ e. ripe_beside e (λ is. and_right ((R.h).port == e.port) (prefix_eq p ((R.h).message).prefix) apart);
    unripe_same = unripe_same;
  })
    where
      one_more : (cs : List Carried) → carried p (cs ++ as_carried R.h ∷ []) ≡ carried p cs
      one_more cs = carried-append p cs (as_carried R.h ∷ []) ∙ ap (λ b. carried p cs ++ (if b then held_as R.h ∷ [] else [])) apart ∙ append-nil (carried p cs)

      sent_alike : (e : LinkEnd) (b : Bool) → carried p ((if b then with_coming (t.far a) (λ cs. cs ++ as_carried R.h ∷ []) w.coming else w.coming) e) ≡ carried p (w.coming e)
      sent_alike e true = elim (place_cases e (t.far a)) [
        | inl is ↦ subst (λ z. carried p (with_coming (t.far a) (λ cs. cs ++ as_carried R.h ∷ []) w.coming z) ≡ carried p (w.coming z)) (sym is)
            (ap (carried p) (coming_here (t.far a) (λ cs. cs ++ as_carried R.h ∷ []) w.coming) ∙ one_more (w.coming (t.far a)))
        | inr ne ↦ ap (carried p) (coming_away (t.far a) (λ cs. cs ++ as_carried R.h ∷ []) w.coming e ne)
      ]
      sent_alike e false = refl

  -- from a port where no link is nothing is sent
  nowhere_less : t.valid a ≡ false → Less t F.routers F.ports p w v
  nowhere_less out = record {
    weights = no_more_weight t F.routers F.ports (shown p w) (shown p v) (rel_stays (λ (y : Router). machine_of y p) refl)
        (λ e valid u cost x y. rw (coming_same e, ripe_beside (t.far e) (not_kept (t.far e) (apart (t.far e) (t.far_valid e valid))), unripe_same (t.far e)) (omega arith));
    load_less = no_more_load t F.routers F.ports (shown p w) (shown p v)
        (λ e valid. rw (coming_same e) (omega arith)) (λ e valid. rw (ripe_beside e (not_kept e (apart e valid)), unripe_same e) (omega arith));
    stale_less = stales_same t F.routers F.ports (shown p w) (shown p v) (rel_stays (λ (y : Router). machine_of y p) refl);
  }
    where
      coming_same : (e : LinkEnd) → v.coming e ≡ w.coming e
      coming_same e = R.coming_is e ∙ ap (λ b. (if b && is_in_session w a (R.h).session then with_coming (t.far a) (λ cs. cs ++ as_carried R.h ∷ []) w.coming else w.coming) e) out

      apart : (e : LinkEnd) → t.valid e ≡ true → e ≡ a → ⊥
      apart e valid is = both_ways (t.valid a) out (subst (λ z. t.valid z ≡ true) is valid)

  -- where a link is
  there_less : t.valid a ≡ true → prefix_eq p ((R.h).message).prefix ≡ true → Less t F.routers F.ports p w v
  there_less valid same = record {
    weights = release_weight t F (shown p w) (shown p v) seen F.routers F.ports;
    load_less = release_loads t F (shown p w) (shown p v) seen;
    stale_less = stales_same t F.routers F.ports (shown p w) (shown p v) (rel_stays (λ (y : Router). machine_of y p) refl);
  }
    where
      -- whether the message arrives
      lives : is_in_session w a (R.h).session ≡ (option_map_or (λ (x : Port). x.up) (slice_get (w.routers R.i).ports (R.h).port) false && ((R.h).session == session_at (w.routers R.i).ports (R.h).port))
      lives = by_port (slice_get (w.routers R.i).ports (R.h).port)
        where
          by_port : (o : Option Port) → option_map_or (λ (x : Port). x.up && (x.session == (R.h).session)) o false ≡ (option_map_or (λ (x : Port). x.up) o false && ((R.h).session == option_map_or (λ (x : Port). x.session) o 0))
          by_port None = refl
          by_port (Some x) = ap (λ b. x.up && b) (eqb_sym x.session (R.h).session)

      -- what is on its way then
      arrives : (b : Bool) → reported (carried p ((if b then with_coming (t.far a) (λ cs. cs ++ as_carried R.h ∷ []) w.coming else w.coming) (t.far a))) ≡ reported (carried p (w.coming (t.far a))) ++ (if b then Reported (msg_of (R.h).message) ∷ [] else [])
      arrives true =
          ap (λ cs. reported (carried p cs)) (coming_here (t.far a) (λ cs. cs ++ as_carried R.h ∷ []) w.coming)
          ∙ ap reported (carried-append p (w.coming (t.far a)) (as_carried R.h ∷ []) ∙ ap (λ b. carried p (w.coming (t.far a)) ++ (if b then held_as R.h ∷ [] else [])) same)
          ∙ reported-append (carried p (w.coming (t.far a))) (held_as R.h ∷ [])
      arrives false = sym (append-nil (reported (carried p (w.coming (t.far a)))))

      away : (e : LinkEnd) → (e ≡ t.far a → ⊥) → (b : Bool) → (if b then with_coming (t.far a) (λ cs. cs ++ as_carried R.h ∷ []) w.coming else w.coming) e ≡ w.coming e
      away e ne true = coming_away (t.far a) (λ cs. cs ++ as_carried R.h ∷ []) w.coming e ne
      away e ne false = refl

      here : kept p (R.h).port (ripe_of (w.routers R.i)) ≡ held_as R.h ∷ kept p (R.h).port (ripe_of (v.routers R.i))
      here =
          ripe_was (R.h).port
          ∙ ap (λ b. if b then held_as R.h ∷ kept p (R.h).port (ripe_of (router_releasing (w.routers R.i))) else kept p (R.h).port (ripe_of (router_releasing (w.routers R.i))))
          (and_from ((R.h).port == (R.h).port) (prefix_eq p ((R.h).message).prefix) (eq-eqb (R.h).port (R.h).port refl) same)
          ∙ ap (λ (y : Router). held_as R.h ∷ kept p (R.h).port (ripe_of y)) (sym R.router_is)

      seen : NetRelease t (shown p w) (shown p v)
      seen = record {
        a = a;
        first = held_as R.h;
        valid_place = valid;
        ripe_at = here;
        ripe_elsewhere = λ e ne. ripe_beside e (not_kept e ne);
        inbox_at = ap (λ cs. reported (carried p cs)) (R.coming_is (t.far a))
            ∙ ap (λ c. reported (carried p ((if c && is_in_session w a (R.h).session then with_coming (t.far a) (λ cs. cs ++ as_carried R.h ∷ []) w.coming else w.coming) (t.far a)))) valid
            ∙ arrives (is_in_session w a (R.h).session)
            ∙ ap (λ b. reported (carried p (w.coming (t.far a))) ++ (if b then Reported (msg_of (R.h).message) ∷ [] else [])) lives;
        inbox_elsewhere = λ e ne. ap (λ cs. reported (carried p cs)) (R.coming_is e ∙ away e ne (t.valid a && is_in_session w a (R.h).session));
        unripe_same = unripe_same;
        machines = record { machine_same = rel_stays (λ (y : Router). machine_of y p) refl; seen_same = λ e. rel_stays (λ (y : Router). session_at y.ports e.port) refl e.router };
        links = record {
          up_same = λ e. rel_stays (λ (y : Router). option_map_or (λ (x : Port). x.up) (slice_get y.ports e.port) false) refl e.router;
          session_same = λ e. rel_stays (λ (y : Router). session_at y.ports e.port) refl e.router;
        };
        costs = record { cost_same = λ e. refl };
        publications = record {
          published_same = rel_stays (λ (y : Router). next_hop_at p y) refl;
          published_fd_same = rel_stays (λ (y : Router). (machine_of y p).fd) refl;
        };
      }

  -- no more counts
  pub release_less : Less t F.routers F.ports p w v
  release_less = by_place (t.valid a) refl
    where
      by_prefix : t.valid a ≡ true → (b : Bool) → prefix_eq p ((R.h).message).prefix ≡ b → Less t F.routers F.ports p w v
      by_prefix valid true same = there_less valid same
      by_prefix valid false apart = other_less apart

      by_place : (b : Bool) → t.valid a ≡ b → Less t F.routers F.ports p w v
      by_place true valid = by_prefix valid (prefix_eq p ((R.h).message).prefix) refl
      by_place false out = nowhere_less out
