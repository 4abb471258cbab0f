-- Whatever happens keeps the order of sessions.
use Rattle.std.proofs.Common.{refl, sym, ap, subst, ◌∙◌, arith, inl, inr, ◌≡◌, ◌⊎◌, ℕ, ◌≤◌, max, Bool, true, false, ◌&&◌, ◌==◌, is_none, if◌then◌else◌, List, [], ◌∷◌, take, drop, Some, None, slice_get, eq-eqb, ne_eqb, min, Option}
use Rattle.no_packet_loops.proofs.Common.{and_parts, and_from, false≢true, take-append-le, Prefix, Held, Router, machine_of, session_at, router_publishing, router_releasing, ripe_front, next_hop_at, ripe_of, is_up_at, is_port, is_next_hop, Topology, LinkEnd, at_port, place_cases, Message, cases_eq}
use Rattle.network_model.proofs.Common.{both_ways}
use Rattle.network_model.specs.World.{with_offer}
use Rattle.loop_freedom.specs.Facts.{End}
use Rattle.router_core.specs.Alone.{router_publishing_some}
use Rattle.single_router.specs.{declared.input.Input.Input, declared.opening.Attachment.Attachment, Inputs.told_fault, Inputs.kind_fault, Inputs.message_fault, Openings.make_fault, Openings.made_router}
use Rattle.single_router.specs.declared.input.Input.TheVariants as input
use Rattle.daemon_laws.specs.{Processes.Carried, Processes.Processes, Facts.fds_next, Facts.fds_after}
use Rattle.daemon_laws.specs.Happenings.{Happening, Tells, Takes, Loses, Publishes, PublishesSome, Forgets, Releases, BeginsAnew, IsLocalInput, CanHappen, with_process, is_same_end, with_coming, told_router, forgotten, having_released, after_happening, after_happenings, IsOpening, AllCanHappen, latest_coming, last_anew, heard_anew, Offers}
use Rattle.daemon_laws.proofs.{Cases.after_message, Cases.by_take, Cases.by_release, Seen.is_port_in, Moving.in_session, Moving.hop_same as hop_from, Meeting.GoesAt, Meeting.may_before, Beginning.Made, Beginning.made, Items.session_is, Telling.passed, Telling.neither, Telling.message_passes, Placed.placed_next}
use Rattle.daemon_laws.proofs.Invariant.{router_at, session_of, Invariant, Placed}
use Rattle.daemon_laws.proofs.InForce.{Ends, AsChosen, AsBefore, PutsInForce}
use Rattle.daemon_laws.proofs.Releasing.{as_carried, Sent, OnItsWay, Lost}
use Rattle.no_packet_loops.proofs.Releasing.{front_of, ripe_front_is}
use Rattle.daemon_laws.proofs.Orderly.{CarriedPast, HeldPast, carried_later, carried_append, carried_drop, carried_first, held_later, held_append, held_drop, held_take, stamped_past, HoldsMore, told_more, Shows, Orderly}
use Rattle.c_interface.specs.{declared.fault.CallFault.CallFault, Faults.first_of}
use Rattle.daemon_laws.proofs.Anew.{carried_least, anew_less, anew_least, anew_far}
use Rattle.daemon_laws.proofs.Steps.{router_here, router_away, end_same, tells_at, taken_at, publishes_puts, publishes_some_puts, forgets_puts, sent_is, next_keeps, offers_puts}

-- a message that is taken is of the session of its port
in_its_session : (r : Router) (q session : ℕ) (m : Message) → is_none (told_fault (input.Message q session m) r) ≡ true → session_at r.ports q ≡ session
in_its_session r q session m none = by_fault (told_fault (input.Message q session m) r) refl none
  where
    by_fault : (o : Option CallFault) → told_fault (input.Message q session m) r ≡ o → is_none o ≡ true → session_at r.ports q ≡ session
    by_fault (Some x) is h = absurd (false≢true h)
    by_fault None is h =
        let fault = kind_fault (machine_of r m.prefix).computation q m.kind in
        let P = passed (slice_get r.ports q) (λ x. first_of (message_fault session x) fault) is in
        let u = message_passes session P.port (neither (message_fault session P.port) fault P.passes).0 in
        session_is r q P.port P.there ∙ u.1

-- ---- a router that holds more

-- what an end took last is what it had taken last, or the first message that was on its way to it
data Hears (w w' : Processes) (d : LinkEnd) : Type 0 where
  Before : w'.heard d ≡ w.heard d → Hears w w' d
  Now : (c : Carried) → slice_get (w.coming d) 0 ≡ Some c → w'.heard d ≡ c.session → c.session ≤ session_of w d → Hears w w' d

-- one router holds more, and some first message may be taken; nothing else changes
record Grows (t : Topology) (p : Prefix) (w w' : Processes) : Type 0 where
  at : GoesAt t p w w'
  more : HoldsMore (w.routers at.i) (w'.routers at.i)
  last_most : (e : LinkEnd) → w'.last e ≤ max (w.last e) (session_of w' e)
  coming_fewer : (e : LinkEnd) (n : ℕ) → CarriedPast n (w.coming e) → CarriedPast n (w'.coming e)
  hears : (d : LinkEnd) → Hears w w' d

module _ (t : Topology) (p : Prefix) (pfd : ℕ → ℕ) (w w' : Processes) (I : Invariant t p pfd w) (O : Orderly t p w) (G : Grows t p w w') where
  -- the router that makes the step
  abbrev i : ℕ
  i = (G.at).i

  -- a port that is up is in the last session of its end
  up_last' : (e : LinkEnd) → is_up_at (machine_of (router_at w' e) p) e.port ≡ true → w'.last e ≤ session_of w' e
  up_last' e u = elim (cases_eq e.router i) [
    | inl r ↦ subst (λ (f : LinkEnd). is_up_at (machine_of (router_at w' f) p) f.port ≡ true → w'.last f ≤ session_of w' f) (sym (ap (λ (k : ℕ). at_port k e.port) r)) (here e.port) u
    | inr d ↦
        let same : router_at w' e ≡ router_at w e = (G.at).routers_elsewhere e.router d in
        let was = O.up_last e (ap (λ (r : Router). is_up_at (machine_of r p) e.port) (sym same) ∙ u) in
        let s : session_of w' e ≡ session_of w e = ap (λ (r : Router). session_at r.ports e.port) same in
        let m = G.last_most e in
        omega (arith, was, s, m)
  ]
    where
      here : (q : ℕ) → is_up_at (machine_of (router_at w' (at_port i q)) p) q ≡ true → w'.last (at_port i q) ≤ session_of w' (at_port i q)
      here q u =
          let e = at_port i q in
          let n = session_of w' e in
          let on : is_port_in p (router_at w' e) q n ≡ true = and_from (is_up_at (machine_of (router_at w' e) p) q) (n == n) u (eq-eqb n n refl) in
          let m = G.last_most e in
          elim (may_before t p pfd w w' I (G.at) n q (inl on)) [
            | inl was ↦
                let up : is_up_at (machine_of (router_at w e) p) q ≡ true = (and_parts (is_up_at (machine_of (router_at w e) p) q) (session_of w e == n) was).0 in
                let l = O.up_last e up in
                let s = in_session p (router_at w e) q n was in
                omega (arith, l, s, m)
            | inr lt ↦ omega (arith, lt, m)
          ]

  -- what an end shows is as before
  shows_before : (e : LinkEnd) (k : ℕ) → Shows p w' e k → Shows p w e k
  shows_before e k h = ap (λ o. is_next_hop e.port k o) (sym (hop_same e)) ∙ h
    where
      hop_same : (e : LinkEnd) → next_hop_at p (router_at w' e) ≡ next_hop_at p (router_at w e)
      hop_same e = elim (cases_eq e.router i) [
        | inl r ↦ subst (λ (j : ℕ). next_hop_at p (w'.routers j) ≡ next_hop_at p (w.routers j)) (sym r) (hop_from p (w.routers i) (w'.routers i) (G.more).published_same)
        | inr d ↦ ap (next_hop_at p) ((G.at).routers_elsewhere e.router d)
      ]

  -- what may be released stays
  ripe_same : (e : LinkEnd) → ripe_of (router_at w' e) ≡ ripe_of (router_at w e)
  ripe_same e = elim (cases_eq e.router i) [
    | inl r ↦ subst (λ (j : ℕ). ripe_of (w'.routers j) ≡ ripe_of (w.routers j)) (sym r)
        (let r0 = w.routers i in
        (λ z. take ((G.more).ripe_same z) ((G.more).held_is z)) ∙ take-append-le (r0.gate).ripe (r0.gate).held (G.more).more (I.keeps i).ripe_within)
    | inr d ↦ ap ripe_of ((G.at).routers_elsewhere e.router d)
  ]

  -- what is held is of sessions that its sender has been in
  held' : (e : LinkEnd) → HeldPast e.port (session_of w' e) ((router_at w' e).gate).held
  held' e = elim (cases_eq e.router i) [
    | inl r ↦ subst (λ (f : LinkEnd). HeldPast f.port (session_of w' f) ((router_at w' f).gate).held) (sym (ap (λ (k : ℕ). at_port k e.port) r)) (here e.port)
    | inr d ↦ subst (λ (r : Router). HeldPast e.port (session_at r.ports e.port) (r.gate).held) (sym ((G.at).routers_elsewhere e.router d)) (O.held_past e)
  ]
    where
      here : (q : ℕ) → HeldPast q (session_of w' (at_port i q)) ((w'.routers i).gate).held
      here q =
          let e = at_port i q in
          let s' = session_of w' e in
          subst (λ hs. HeldPast q s' hs) (sym (G.more).held_is)
          (held_append q s' ((w.routers i).gate).held (G.more).more
          (held_later q (session_of w e) s' ((w.routers i).gate).held (((G.at).goes).later q) (O.held_past e))
          (stamped_past q s' (w'.routers i).ports (G.more).more (omega arith) (G.more).stamped))

  -- no end was last in an earlier session than before
  session_grows : (e : LinkEnd) → session_of w e ≤ session_of w' e
  session_grows e = elim (cases_eq e.router i) [
    | inl r ↦ subst (λ (f : LinkEnd). session_of w f ≤ session_of w' f) (sym (ap (λ (k : ℕ). at_port k e.port) r)) (((G.at).goes).later e.port)
    | inr d ↦ (let same : session_of w' e ≡ session_of w e = ap (λ (r : Router). session_at r.ports e.port) ((G.at).routers_elsewhere e.router d) in omega (arith, same))
  ]

  -- what it took last is of one that its process was in
  heard_here' : (e : LinkEnd) → w'.heard e ≤ session_of w' e
  heard_here' e = by_hears (G.hears e)
    where
      by_hears : Hears w w' e → w'.heard e ≤ session_of w' e
      by_hears (Before same) = (let h = O.heard_here e in let g = session_grows e in omega (arith, same, h, g))
      by_hears (Now c at is here) = (let g = session_grows e in omega (arith, is, here, g))

  -- what an end took last is of no session later than n, where what is on its way and what it had taken are
  heard' : (d : LinkEnd) (n : ℕ) → w.heard d ≤ n → CarriedPast n (w.coming d) → w'.heard d ≤ n
  heard' d n le past = by_hears (G.hears d)
    where
      by_hears : Hears w w' d → w'.heard d ≤ n
      by_hears (Before same) = omega (arith, same, le)
      by_hears (Now c at is here) = (let l = carried_first n (w.coming d) c at past in omega (arith, is, l))

  -- such a step keeps the order
  grows_orderly : Orderly t p w'
  grows_orderly = record {
    up_last = up_last';
    held_past = held';
    coming_past = λ e v. G.coming_fewer (t.far e) (w'.last e) (carried_later (w.last e) (w'.last e) (w.coming (t.far e)) ((G.at).last_grows e) (O.coming_past e v));
    heard_past = λ e v. (let h = heard' (t.far e) (w.last e) (O.heard_past e v) (O.coming_past e v) in let l = (G.at).last_grows e in omega (arith, h, l));
    heard_here = heard_here';
    row_past = λ e k h. (let le = O.row_past e k (shows_before e k h) in let g = session_grows e in omega (arith, le, g));
    row_held = λ e k h. subst (λ hs. HeldPast e.port k hs) (sym (ripe_same e)) (O.row_held e k (shows_before e k h));
    row_coming = λ e v k h. G.coming_fewer (t.far e) k (O.row_coming e v k (shows_before e k h));
    row_heard = λ e v k h. heard' (t.far e) k (O.row_heard e v k (shows_before e k h)) (O.row_coming e v k (shows_before e k h));
  }

-- ---- a router whose machine and ports stay

-- a router has its machine, its ports and what it holds as before
record SameSessions (p : Prefix) (w w' : Processes) (e : LinkEnd) : Type 0 where
  up_is : is_up_at (machine_of (router_at w' e) p) e.port ≡ is_up_at (machine_of (router_at w e) p) e.port
  session_is : session_of w' e ≡ session_of w e
  held_is : ((router_at w' e).gate).held ≡ ((router_at w e).gate).held

-- so it is of one that differs from the old one in none of these
same_sessions_by : (p : Prefix) (w w' : Processes) (e : LinkEnd) (r : Router) → router_at w' e ≡ r → {o : Router} → router_at w e ≡ o
    → is_up_at (machine_of r p) e.port ≡ is_up_at (machine_of o p) e.port → session_at r.ports e.port ≡ session_at o.ports e.port → (r.gate).held ≡ (o.gate).held → SameSessions p w w' e
same_sessions_by p w w' e r is {o} was up session held = record {
  up_is = ap (λ (x : Router). is_up_at (machine_of x p) e.port) is ∙ up ∙ ap (λ (x : Router). is_up_at (machine_of x p) e.port) (sym was);
  session_is = ap (λ (x : Router). session_at x.ports e.port) is ∙ session ∙ ap (λ (x : Router). session_at x.ports e.port) (sym was);
  held_is = ap (λ (x : Router). (x.gate).held) is ∙ held ∙ ap (λ (x : Router). (x.gate).held) (sym was);
}

-- ---- a message that is released

-- the first of what is held for a port
first_past : (q n : ℕ) (h : Held) (hs : List Held) → HeldPast q n (h ∷ hs) → h.port ≡ q → h.session ≤ n
first_past q n h hs past at = past.0 at

module _ (t : Topology) (p : Prefix) (pfd : ℕ → ℕ) (w : Processes) (I : Invariant t p pfd w) (O : Orderly t p w) (i : ℕ) (h : Held) (front : ripe_front (w.routers i) ≡ Some h) where
  -- the router that releases
  abbrev r : Router
  r = w.routers i

  abbrev v : Processes
  v = having_released t i w h

  -- the message is the first of those that it may release
  ripe_is : ripe_of r ≡ h ∷ ripe_of (router_releasing r)
  ripe_is = ripe_front_is r h (front_of r h front)

  released_now : (e : LinkEnd) → e.router ≡ i → router_at v e ≡ router_releasing r
  released_now e g = ap (with_process i router_releasing w.routers) g ∙ router_here i router_releasing w.routers

  -- another router
  released_away : (e : LinkEnd) → (e.router ≡ i → ⊥) → router_at v e ≡ router_at w e
  released_away e d = router_away i router_releasing w.routers e.router d

  -- what an end shows is as before
  shows_still : (e : LinkEnd) (k : ℕ) → Shows p v e k → Shows p w e k
  shows_still e k x = elim (cases_eq e.router i) [
    | inl g ↦ subst (λ (j : ℕ). is_next_hop e.port k (next_hop_at p (w.routers j)) ≡ true) (sym g) (subst (λ (y : Router). is_next_hop e.port k (next_hop_at p y) ≡ true) (released_now e g) x)
    | inr d ↦ subst (λ (y : Router). is_next_hop e.port k (next_hop_at p y) ≡ true) (released_away e d) x
  ]

  -- what is on its way is of no session later than n, where what was and the message are
  coming_then : (e : LinkEnd) → t.valid e ≡ true → (n : ℕ) → CarriedPast n (w.coming (t.far e)) → (e ≡ at_port i h.port → h.session ≤ n) → CarriedPast n (v.coming (t.far e))
  coming_then e va n past le = by_sent (sent_is t p pfd w I i h v (λ d. refl))
    where
      by_sent : Sent t p i h w v → CarriedPast n (v.coming (t.far e))
      by_sent (Lost off same) = subst (CarriedPast n) (sym (same (t.far e))) past
      by_sent (OnItsWay vb at elsewhere) = elim (place_cases e (at_port i h.port)) [
        | inl is ↦ subst (λ (d : LinkEnd). CarriedPast n (v.coming (t.far d))) (sym is)
            (subst (CarriedPast n) (sym at) (carried_append n (w.coming (t.far (at_port i h.port))) (as_carried h ∷ []) (subst (λ (d : LinkEnd). CarriedPast n (w.coming (t.far d))) is past) (le is, tt)))
        | inr d ↦ subst (CarriedPast n) (sym (elsewhere (t.far e) (λ x. d (sym (t.far_far e va) ∙ ap t.far x ∙ t.far_far (at_port i h.port) vb)))) past
      ]

  -- a release keeps the order
  released_orderly : Orderly t p v
  released_orderly = record {
    up_last = λ e u. elim (cases_eq e.router i) [
      | inl g ↦
          let l = O.up_last e (subst (λ (j : ℕ). is_up_at (machine_of (w.routers j) p) e.port ≡ true) (sym g) (subst (λ (y : Router). is_up_at (machine_of y p) e.port ≡ true) (released_now e g) u)) in
          let s : session_of v e ≡ session_of w e = ap (λ (y : Router). session_at y.ports e.port) (released_now e g) ∙ ap (λ (j : ℕ). session_at (w.routers j).ports e.port) (sym g) in
          omega (arith, l, s)
      | inr d ↦
          let l = O.up_last e (subst (λ (y : Router). is_up_at (machine_of y p) e.port ≡ true) (released_away e d) u) in
          let s : session_of v e ≡ session_of w e = ap (λ (y : Router). session_at y.ports e.port) (released_away e d) in
          omega (arith, l, s)
    ];
    held_past = λ e. elim (cases_eq e.router i) [
      | inl g ↦ subst (λ (y : Router). HeldPast e.port (session_at y.ports e.port) (y.gate).held) (sym (released_now e g))
          (held_drop e.port (session_at r.ports e.port) (r.gate).held (subst (λ (j : ℕ). HeldPast e.port (session_at (w.routers j).ports e.port) ((w.routers j).gate).held) g (O.held_past e)))
      | inr d ↦ subst (λ (y : Router). HeldPast e.port (session_at y.ports e.port) (y.gate).held) (sym (released_away e d)) (O.held_past e)
    ];
    coming_past = λ e va. coming_then e va (w.last e) (O.coming_past e va) (λ is. past_last e is);
    heard_past = O.heard_past;
    heard_here = λ e. (let h = O.heard_here e in let s = session_same e in omega (arith, h, s));
    row_past = λ e k x. (let le = O.row_past e k (shows_still e k x) in let s = session_same e in omega (arith, le, s));
    row_held = λ e k x. elim (cases_eq e.router i) [
      | inl g ↦ subst (λ (y : Router). HeldPast e.port k (ripe_of y)) (sym (released_now e g)) (rest e k g (O.row_held e k (shows_still e k x)))
      | inr d ↦ subst (λ (y : Router). HeldPast e.port k (ripe_of y)) (sym (released_away e d)) (O.row_held e k (shows_still e k x))
    ];
    row_coming = λ e va k x. coming_then e va k (O.row_coming e va k (shows_still e k x)) (λ is. past_row e k is (O.row_held e k (shows_still e k x)));
    row_heard = λ e va k x. O.row_heard e va k (shows_still e k x);
  }
    where
      whole : (e : LinkEnd) (k : ℕ) → e.router ≡ i → HeldPast e.port k (ripe_of (router_at w e)) → HeldPast e.port k (h ∷ ripe_of (router_releasing r))
      whole e k g past = subst (λ hs. HeldPast e.port k hs) (ap (λ (j : ℕ). ripe_of (w.routers j)) g ∙ ripe_is) past

      rest : (e : LinkEnd) (k : ℕ) → e.router ≡ i → HeldPast e.port k (ripe_of (router_at w e)) → HeldPast e.port k (ripe_of (router_releasing r))
      rest e k g past = (whole e k g past).1

      past_row : (e : LinkEnd) (k : ℕ) → e ≡ at_port i h.port → HeldPast e.port k (ripe_of (router_at w e)) → h.session ≤ k
      past_row e k is past = first_past e.port k h (ripe_of (router_releasing r)) (whole e k (ap (λ (d : LinkEnd). d.router) is) past) (sym (ap (λ (d : LinkEnd). d.port) is))

      past_last : (e : LinkEnd) → e ≡ at_port i h.port → h.session ≤ w.last e
      past_last e is = (let le = past_row e (session_of w e) is (held_take e.port (session_of w e) ((router_at w e).gate).ripe ((router_at w e).gate).held (O.held_past e)) in let l = I.last_is e in omega (arith, le, l))

      session_same : (e : LinkEnd) → session_of v e ≡ session_of w e
      session_same e = elim (cases_eq e.router i) [
        | inl g ↦ ap (λ (y : Router). session_at y.ports e.port) (released_now e g) ∙ ap (λ (j : ℕ). session_at (w.routers j).ports e.port) (sym g)
        | inr d ↦ ap (λ (y : Router). session_at y.ports e.port) (released_away e d)
      ]

-- ---- each happening

module _ (t : Topology) (p : Prefix) (pfd : ℕ → ℕ) (w : Processes) (I : Invariant t p pfd w) (O : Orderly t p w) where
  -- a process tells its router
  tells_orderly : (i : ℕ) (x : Input) → IsLocalInput w i x → Orderly t p (after_happening t w (Tells i x))
  tells_orderly i x own = grows_orderly t p pfd w (after_happening t w (Tells i x)) I O (record {
    at = tells_at t p pfd w I i x own;
    more = subst (HoldsMore (w.routers i)) (sym (router_here i (told_router x) w.routers)) (told_more x (w.routers i));
    last_most = λ e. omega arith;
    coming_fewer = λ e n h. h;
    hears = λ d. Before refl;
  })

  -- without the first message at an end, what comes to each is past what it was past
  fewer : (e d : LinkEnd) (n : ℕ) → CarriedPast n (w.coming d) → CarriedPast n (with_coming e (drop 1) w.coming d)
  fewer e d n h = by_same (is_same_end d e)
    where
      by_same : (b : Bool) → CarriedPast n (if b then drop 1 (w.coming d) else w.coming d)
      by_same true = carried_drop n (w.coming d) h
      by_same false = h

  -- a process takes a message
  takes_orderly : (e : LinkEnd) → Orderly t p (after_happening t w (Takes e))
  takes_orderly e = by_take t w (Orderly t p) O e (λ c at le.
      let m = input.Message e.port c.session c.message in
      grows_orderly t p pfd w (after_message e w c) I O (record {
        at = taken_at t p pfd w I e c at le;
        more = subst (HoldsMore (w.routers e.router)) (sym (router_here e.router (told_router m) w.routers)) (told_more m (w.routers e.router));
        last_most = λ d. omega arith;
        coming_fewer = fewer e;
        hears = λ d. as_hears (after_message e w c) c d (hears c at le d (is_same_end d e) refl (is_none (told_fault m (w.routers e.router))) refl);
      }))
    where
      hears : (c : Carried) → slice_get (w.coming e) 0 ≡ Some c → (le : c.session ≤ w.last e) (d : LinkEnd) → (b : Bool) → is_same_end d e ≡ b → (f : Bool) → is_none (told_fault (input.Message e.port c.session c.message) (w.routers e.router)) ≡ f
          → (if b && f then c.session else w.heard d) ≡ w.heard d ⊎ ((slice_get (w.coming d) 0 ≡ Some c) × ((if b && f then c.session else w.heard d) ≡ c.session) × (c.session ≤ session_of w d))
      hears c at le d true is true none = inr (
        ap (λ (g : LinkEnd). slice_get (w.coming g) 0) (end_same d e is) ∙ at,
        refl,
        subst (λ (g : LinkEnd). c.session ≤ session_of w g) (sym (end_same d e is)) (let s = in_its_session (w.routers e.router) e.port c.session c.message none in omega (arith, s)),
      )
      hears c at le d _ is _ none = inl refl

      as_hears : (v : Processes) (c : Carried) (d : LinkEnd) → (v.heard d ≡ w.heard d) ⊎ ((slice_get (w.coming d) 0 ≡ Some c) × (v.heard d ≡ c.session) × (c.session ≤ session_of w d)) → Hears w v d
      as_hears v c d (inl same) = Before same
      as_hears v c d (inr now) = Now c now.0 now.1 now.2

  -- a message is lost
  loses_orderly : (e : LinkEnd) → Orderly t p (after_happening t w (Loses e))
  loses_orderly e = record {
    up_last = O.up_last;
    held_past = O.held_past;
    coming_past = λ f v. fewer e (t.far f) (w.last f) (O.coming_past f v);
    heard_past = O.heard_past;
    heard_here = O.heard_here;
    row_past = O.row_past;
    row_held = O.row_held;
    row_coming = λ f v k h. fewer e (t.far f) k (O.row_coming f v k h);
    row_heard = O.row_heard;
  }

  -- a router puts rows in force, or forgets a prefix
  pub puts_orderly : (i : ℕ) (f : Router → Router) (fd fd' : ℕ) → PutsInForce p (w.routers i) (f (w.routers i)) fd fd'
      → Orderly t p (record { routers = with_process i f w.routers; coming = w.coming; last = w.last; heard = w.heard; lost = w.lost })
  puts_orderly i f fd fd' P = record {
    up_last = λ e u. (let s = same e in let l = O.up_last e (sym (s.up_is) ∙ u) in let q = s.session_is in omega (arith, l, q));
    held_past = λ e. held_now e (session_of (record { routers = with_process i f w.routers; coming = w.coming; last = w.last; heard = w.heard; lost = w.lost }) e) (let q = (same e).session_is in omega (arith, q));
    coming_past = O.coming_past;
    heard_past = O.heard_past;
    heard_here = λ e. (let h = O.heard_here e in let q = (same e).session_is in omega (arith, h, q));
    row_past = λ e k h. (let le = by_past e k (shows e k h) in let q = (same e).session_is in omega (arith, le, q));
    row_held = λ e k h. by_row e k (shows e k h);
    row_coming = λ e v k h. by_coming e v k (shows e k h);
    row_heard = λ e v k h. by_heard e v k (shows e k h);
  }
    where
      w' : Processes
      w' = record { routers = with_process i f w.routers; coming = w.coming; last = w.last; heard = w.heard; lost = w.lost }

      now : (e : LinkEnd) → e.router ≡ i → with_process i f w.routers e.router ≡ f (w.routers i)
      now e g = ap (with_process i f w.routers) g ∙ router_here i f w.routers

      same : (e : LinkEnd) → SameSessions p w (record { routers = with_process i f w.routers; coming = w.coming; last = w.last; heard = w.heard; lost = w.lost }) e
      same e = elim (cases_eq e.router i) [
        | inl g ↦ same_sessions_by p w w' e (f (w.routers i)) (now e g) (ap w.routers g) (P.up_is e.port) (ap (λ ports. session_at ports e.port) P.ports_are) P.held_is
        | inr d ↦ same_sessions_by p w w' e (w.routers e.router) (router_away i f w.routers e.router d) refl refl refl refl
      ]

      -- what an end shows then is of the last session of its end, or it showed that before, and may release no more
      Either : LinkEnd → ℕ → Type 0
      Either e k = ((w.last e ≤ k) × (k ≤ session_of w e)) ⊎ (Shows p w e k × (ripe_of (with_process i f w.routers e.router) ≡ ripe_of (w.routers e.router)))

      held_now : (e : LinkEnd) (k : ℕ) → session_of w e ≤ k → HeldPast e.port k ((with_process i f w.routers e.router).gate).held
      held_now e k le = subst (λ hs. HeldPast e.port k hs) (sym (same e).held_is) (held_later e.port (session_of w e) k ((router_at w e).gate).held le (O.held_past e))

      by_past : (e : LinkEnd) (k : ℕ) → Either e k → k ≤ session_of w e
      by_past e k (inl late) = late.1
      by_past e k (inr before) = O.row_past e k before.0

      in_last : (e : LinkEnd) → e.router ≡ i → (k : ℕ) → is_port_in p (w.routers i) e.port k ≡ true → (w.last e ≤ k) × (k ≤ session_of w e)
      in_last e g k on =
          let r = w.routers i in
          let up : is_up_at (machine_of r p) e.port ≡ true = (and_parts (is_up_at (machine_of r p) e.port) (session_at r.ports e.port == k) on).0 in
          let s : session_at r.ports e.port ≡ k = in_session p r e.port k on in
          let l = O.up_last e (subst (λ (j : ℕ). is_up_at (machine_of (w.routers j) p) e.port ≡ true) (sym g) up) in
          let q : session_of w e ≡ session_at r.ports e.port = ap (λ (j : ℕ). session_at (w.routers j).ports e.port) g in
          (omega (arith, l, q, s), omega (arith, q, s))

      by_ends : (e : LinkEnd) → e.router ≡ i → (k : ℕ) → is_next_hop e.port k (next_hop_at p (f (w.routers i))) ≡ true → Ends p (w.routers i) (f (w.routers i)) fd fd' → Either e k
      by_ends e g k shown (AsChosen ends) =
          let r = w.routers i in
          let as_chosen : is_next_hop e.port k (next_hop_at p (f r)) ≡ (is_port_in p r e.port k && is_port e.port (machine_of r p).successor) = ap (λ (x : End). x.shown) (ends k e.port []).is in
          inl (in_last e g k (and_parts (is_port_in p r e.port k) (is_port e.port (machine_of r p).successor) (sym as_chosen ∙ shown)).0)
      by_ends e g k shown (AsBefore ends ripe) =
          inr (
            subst (λ (j : ℕ). is_next_hop e.port k (next_hop_at p (w.routers j)) ≡ true) (sym g) (sym (ap (λ (x : End). x.shown) (ends k e.port [])) ∙ shown),
            ap ripe_of (now e g) ∙ ripe ∙ ap (λ (j : ℕ). ripe_of (w.routers j)) (sym g),
          )

      shows : (e : LinkEnd) (k : ℕ) → is_next_hop e.port k (next_hop_at p (with_process i f w.routers e.router)) ≡ true → Either e k
      shows e k h = elim (cases_eq e.router i) [
        | inl g ↦ by_ends e g k (subst (λ (x : Router). is_next_hop e.port k (next_hop_at p x) ≡ true) (now e g) h) P.ends
        | inr d ↦ inr (subst (λ (r : Router). is_next_hop e.port k (next_hop_at p r) ≡ true) (router_away i f w.routers e.router d) h, ap ripe_of (router_away i f w.routers e.router d))
      ]

      by_row : (e : LinkEnd) (k : ℕ) → Either e k → HeldPast e.port k (ripe_of (with_process i f w.routers e.router))
      by_row e k (inl late) =
          let r = with_process i f w.routers e.router in
          held_take e.port k (r.gate).ripe (r.gate).held (held_now e k (let a = late.0 in let l = I.last_is e in omega (arith, a, l)))
      by_row e k (inr before) = subst (λ hs. HeldPast e.port k hs) (sym before.1) (O.row_held e k before.0)

      by_coming : (e : LinkEnd) → t.valid e ≡ true → (k : ℕ) → Either e k → CarriedPast k (w.coming (t.far e))
      by_coming e v k (inl late) = carried_later (w.last e) k (w.coming (t.far e)) late.0 (O.coming_past e v)
      by_coming e v k (inr before) = O.row_coming e v k before.0

      by_heard : (e : LinkEnd) → t.valid e ≡ true → (k : ℕ) → Either e k → w.heard (t.far e) ≤ k
      by_heard e v k (inl late) = (let a = O.heard_past e v in let b = late.0 in omega (arith, a, b))
      by_heard e v k (inr before) = O.row_heard e v k before.0

  -- a router releases a message
  releases_orderly : (i : ℕ) → Orderly t p (after_happening t w (Releases i))
  releases_orderly i = by_release t w (Orderly t p) O i (λ h at. released_orderly t p pfd w I O i h at)

  -- a process ends, and another begins in its place
  anew_orderly : (i : ℕ) (costs : List ℕ) (attachments : List Attachment) → make_fault costs attachments ≡ None → Orderly t p (after_happening t w (BeginsAnew i costs attachments))
  anew_orderly i costs attachments good = record {
    up_last = λ e u. elim (cases_eq e.router i) [
      | inl g ↦ absurd (both_ways (is_up_at (machine_of (with_process i (λ r. made_router costs attachments) w.routers e.router) p) e.port) ((made_at e g).none_up e.port) u)
      | inr d ↦
          let l = O.up_last e (ap (λ (r : Router). is_up_at (machine_of r p) e.port) (sym (away e d)) ∙ u) in
          let s = session_away e d in
          let less = anew_less t i w e (I.last_is e) in
          omega (arith, l, s, less)
    ];
    held_past = λ e. elim (cases_eq e.router i) [
      | inl g ↦ subst (λ hs. HeldPast e.port (session_at (with_process i (λ r. made_router costs attachments) w.routers e.router).ports e.port) hs) (sym (made_at e g).holds_none) tt
      | inr d ↦ subst (λ (r : Router). HeldPast e.port (session_at r.ports e.port) (r.gate).held) (sym (away e d)) (O.held_past e)
    ];
    coming_past = λ e v. carried_later (min (w.last e) (latest_coming t w e)) (last_anew t i w e) (w.coming (t.far e)) (anew_least t i w e) (carried_least (w.last e) (latest_coming t w e) (w.coming (t.far e)) (omega arith) (O.coming_past e v));
    heard_past = λ e v. elim (cases_eq (t.far e).router i) [
      | inl g ↦ (let z = heard_none (t.far e) g in omega (arith, z))
      | inr d ↦ (let s = heard_same (t.far e) d in let far = anew_far t i w e (w.heard (t.far e)) d (O.heard_here (t.far e)) (O.heard_past e v) in omega (arith, s, far))
    ];
    heard_here = λ e. elim (cases_eq e.router i) [
      | inl g ↦ (let z = heard_none e g in omega (arith, z))
      | inr d ↦ (let s = heard_same e d in let q = session_away e d in let h = O.heard_here e in omega (arith, s, q, h))
    ];
    row_past = λ e k h. (let le = O.row_past e k (before e k h) in let q = session_away e (not_made e k h) in omega (arith, le, q));
    row_held = λ e k h. O_row_held e k h;
    row_coming = λ e v k h. O.row_coming e v k (before e k h);
    row_heard = λ e v k h. (let le = O.row_heard e v k (before e k h) in let l = heard_less (t.far e) in omega (arith, le, l));
  }
    where
      heard_none : (e : LinkEnd) → e.router ≡ i → heard_anew i w.heard e ≡ 0
      heard_none e g = rw (eq-eqb e.router i g) refl

      heard_same : (e : LinkEnd) → (e.router ≡ i → ⊥) → heard_anew i w.heard e ≡ w.heard e
      heard_same e d = rw (ne_eqb e.router i d) refl

      heard_less : (e : LinkEnd) → heard_anew i w.heard e ≤ w.heard e
      heard_less e = elim (cases_eq e.router i) [ inl g ↦ (let z = heard_none e g in omega (arith, z)) | inr d ↦ (let s = heard_same e d in omega (arith, s)) ]

      made_at : (e : LinkEnd) → e.router ≡ i → Made p (with_process i (λ r. made_router costs attachments) w.routers e.router)
      made_at e g = subst (Made p) (sym (ap (with_process i (λ r. made_router costs attachments) w.routers) g ∙ router_here i (λ r. made_router costs attachments) w.routers))
          (made p (made_router costs attachments) (record { costs = costs; attachments = attachments; good = good; made = refl }))

      away : (e : LinkEnd) → (e.router ≡ i → ⊥) → with_process i (λ r. made_router costs attachments) w.routers e.router ≡ w.routers e.router
      away e d = router_away i (λ r. made_router costs attachments) w.routers e.router d

      session_away : (e : LinkEnd) → (e.router ≡ i → ⊥) → session_at (with_process i (λ r. made_router costs attachments) w.routers e.router).ports e.port ≡ session_of w e
      session_away e d = ap (λ (r : Router). session_at r.ports e.port) (away e d)

      not_made : (e : LinkEnd) (k : ℕ) → Shows p (after_happening t w (BeginsAnew i costs attachments)) e k → e.router ≡ i → ⊥
      not_made e k h g = false≢true (sym (ap (λ o. is_next_hop e.port k o) (made_at e g).no_hop_is) ∙ h)

      before : (e : LinkEnd) (k : ℕ) → Shows p (after_happening t w (BeginsAnew i costs attachments)) e k → Shows p w e k
      before e k h = subst (λ (r : Router). is_next_hop e.port k (next_hop_at p r) ≡ true) (away e (not_made e k h)) h

      O_row_held : (e : LinkEnd) (k : ℕ) → Shows p (after_happening t w (BeginsAnew i costs attachments)) e k → HeldPast e.port k (ripe_of (with_process i (λ r. made_router costs attachments) w.routers e.router))
      O_row_held e k h = subst (λ (r : Router). HeldPast e.port k (ripe_of r)) (sym (away e (not_made e k h))) (O.row_held e k (before e k h))

  -- whatever happens keeps the order
  pub next_orderly : (h : Happening) → CanHappen w h → Orderly t p (after_happening t w h)
  next_orderly (Tells i x) can = tells_orderly i x can
  next_orderly (Takes e) can = takes_orderly e
  next_orderly (Loses e) can = loses_orderly e
  next_orderly (Publishes i) can = puts_orderly i router_publishing (pfd i) (fds_next p w (Publishes i) pfd i) (publishes_puts t p pfd w I i)
  next_orderly (PublishesSome i n) can = puts_orderly i (router_publishing_some n) (pfd i) (fds_next p w (PublishesSome i n) pfd i) (publishes_some_puts t p pfd w I i n)
  next_orderly (Forgets i k) can = puts_orderly i (forgotten k) (pfd i) (fds_next p w (Forgets i k) pfd i) (forgets_puts t p pfd w I i k)
  next_orderly (Releases i) can = releases_orderly i
  next_orderly (Offers i offer) can = puts_orderly i (with_offer offer) (pfd i) (fds_next p w (Offers i offer) pfd i) (offers_puts t p pfd w I i offer)
  next_orderly (BeginsAnew i costs attachments) can = anew_orderly i costs attachments can

pub after_keeps : (t : Topology) (p : Prefix) (pfd : ℕ → ℕ) (w : Processes) (hs : List Happening) → Invariant t p pfd w → Orderly t p w → Placed t w → AllCanHappen t w hs → Invariant t p (fds_after t p w hs pfd) (after_happenings t w hs)
after_keeps t p pfd w [] I O P can = I
after_keeps t p pfd w (h ∷ hs) I O P can = after_keeps t p (fds_next p w h pfd) (after_happening t w h) hs (next_keeps t p pfd w I O P h can.0) (next_orderly t p pfd w I O h can.0) (placed_next t w P h) can.1

-- the order holds where routers begin
pub begins_orderly : (t : Topology) (p : Prefix) (w : Processes) → IsOpening w → Orderly t p w
begins_orderly t p w B = record {
  up_last = λ e u. absurd (both_ways (is_up_at (machine_of (router_at w e) p) e.port) ((known e).none_up e.port) u);
  held_past = λ e. subst (λ hs. HeldPast e.port (session_of w e) hs) (sym (known e).holds_none) tt;
  coming_past = λ e v. subst (CarriedPast (w.last e)) (sym (B.nothing_comes (t.far e))) tt;
  heard_past = λ e v. (let z = B.never_heard (t.far e) in omega (arith, z));
  heard_here = λ e. (let z = B.never_heard e in omega (arith, z));
  row_past = λ e k h. absurd (hidden e k h);
  row_held = λ e k h. absurd (hidden e k h);
  row_coming = λ e v k h. absurd (hidden e k h);
  row_heard = λ e v k h. absurd (hidden e k h);
}
  where
    known : (e : LinkEnd) → Made p (router_at w e)
    known e = made p (router_at w e) (B.routers_made e.router)

    hidden : (e : LinkEnd) (k : ℕ) → Shows p w e k → ⊥
    hidden e k h = false≢true (sym (ap (λ o. is_next_hop e.port k o) (known e).no_hop_is) ∙ h)
