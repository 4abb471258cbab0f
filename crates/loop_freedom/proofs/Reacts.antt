-- What an event of its machine does to an end of a live link, by the laws of machines.
use Rattle.std.proofs.Common.{refl, sym, ◌∙◌, ap, subst, arith, inl, inr, ◌≡◌, ◌⊎◌, ℕ, ◌+◌, ◌<◌, ◌≤◌, Bool, true, false, ◌&&◌, ◌==◌, List, [], ◌∷◌, ◌++◌, Option, Some, None, append-nil, eqb-true, eq-eqb}
use Rattle.network_model.proofs.Common.{cases_Bool, both_ways, cases_eq, and_parts, and_from, and_left, true_from_ne_false, false_from_ne_true, Kind, Query, Reply, infinity, Machine, port_count, is_port, reaction, Report, SeenHeld, SeenItem, one_if}
use Rattle.network_model.specs.{declared.machine.Event.Event, declared.machine.Outgoing.Outgoing, declared.route.NextHop.NextHop}
use Rattle.machine_laws.specs.Laws.{released, is_up_at, reported_at, awaits, owes_port, is_active, sent_to, count_kind, is_message, is_down, IsSound, Meets, MachineLaws}
use Rattle.loop_freedom.specs.Network.{held_for}
use Rattle.machine_laws.proofs.Events.{is_port-Some, is_port_same}
use Rattle.loop_freedom.specs.Facts.{count, AtLeast, End, live, is_current, end_of}
use Rattle.loop_freedom.proofs.Lists.{front}
use Rattle.loop_freedom.proofs.Link.{heard, Keeps, GoesOn, EndStep}
use Rattle.loop_freedom.proofs.OnTheWay.{live-append, live-held_for, live-held_for_other, count-reports_of, reports_of_at_least, none_sent}

-- what an event of its machine does to port q, where taken is the message that came there, if one did
pub record PortStep (m : Machine) (ev : Event) (q seen seen' n : ℕ) (taken : Option Report) : Type 0 where
  pub counts : (k : Kind) → one_if (is_message k q ev) ≡ count k (front taken)
  pub goes_down : is_down q ev ≡ true → is_up_at (reaction m ev).machine q ≡ false
  pub stays : is_current m q seen n ≡ true → is_current (reaction m ev).machine q seen' n ≡ true
  pub nothing : is_current m q seen n ≡ false → taken ≡ None
  pub reports : is_current m q seen n ≡ true → reported_at (reaction m ev).machine q ≡ heard taken (reported_at m q)
  pub comes : is_current m q seen n ≡ false → is_current (reaction m ev).machine q seen' n ≡ true → (reported_at (reaction m ev).machine q ≡ infinity) × (is_up_at m q ≡ false)
  pub lets_go : released ev ≡ Some q → is_up_at (reaction m ev).machine q ≡ true → count Reply (front taken) ≡ 1

-- a truth value beside one that is false counts 0
one_if_off : (c a : Bool) → c ≡ false → one_if (c && a) ≡ 0
one_if_off c a e = ap one_if (and_left c a e)

-- a truth value beside one that is true counts as itself
one_if_on : (c a : Bool) → c ≡ true → one_if (c && a) ≡ one_if a
one_if_on true a e = refl
one_if_on false a e = cc

-- what is false counts 0
one_if_false : (a : Bool) → a ≡ false → one_if a ≡ 0
one_if_false false e = refl
one_if_false true e = cc

-- what counts 1 is true
is_one : (a : Bool) → 1 ≤ one_if a → a ≡ true
is_one true h = refl
is_one false h = absurd (omega arith)

-- what is true counts 1
one_if_true : (a : Bool) → a ≡ true → one_if a ≡ 1
one_if_true true e = refl
one_if_true false e = cc

-- a list that ends in a query has a query
counts_last : (ss : List Outgoing) (s : Outgoing) → s.kind ≡ Query → 1 ≤ count_kind Query (ss ++ s ∷ [])
counts_last [] s e = rw e (omega arith)
counts_last (x ∷ ss) s e = omega (arith, counts_last ss s e)

module _ (laws : MachineLaws) (m : Machine) (ev : Event) (sound : IsSound m) (meets : Meets m ev) (q seen seen' n : ℕ) (taken : Option Report) (P : PortStep m ev q seen seen' n taken) (there : q < port_count m) where
  -- the machine after the event
  abbrev after : Machine
  after = (reaction m ev).machine

  -- what the event sends
  abbrev sends : List Outgoing
  sends = (reaction m ev).sends

  -- the port knows of the link's session before the event
  abbrev current : Bool
  current = is_current m q seen n

  -- the port knows of the link's session after the event
  abbrev current' : Bool
  current' = is_current after q seen' n

  -- what the event adds to the messages on their way from the port in the link's session
  abbrev pub added_at : List Report
  added_at = live n (held_for seen' (sent_to q sends))

  -- the machine after the event is sound
  sound' : IsSound after
  sound' = laws.stays_sound m ev sound meets

  -- a port that does not know of the session after the event did not before
  was_off : current' ≡ false → current ≡ false
  was_off e = false_from_ne_true current (λ c. both_ways current' e (P.stays c))

  -- a port that knows of the session is up
  up_now : current' ≡ true → is_up_at after q ≡ true
  up_now e = (and_parts (is_up_at after q) (seen' == n) e).0

  -- a port that knows of the session has seen it
  seen_now : current' ≡ true → seen' ≡ n
  seen_now e = eqb-true seen' n ((and_parts (is_up_at after q) (seen' == n) e).1)

  -- where the port knows of the session after the event, the event did not take its link away
  no_down : current' ≡ true → is_down q ev ≡ false
  no_down e = false_from_ne_true (is_down q ev) (λ d. both_ways (is_up_at after q) (P.goes_down d) (up_now e))

  -- a port that does not know of the session adds nothing
  nothing_added : current' ≡ false → added_at ≡ []
  nothing_added e = elim (cases_eq seen' n) [
    | inl s ↦
        let low : is_up_at after q ≡ false = false_from_ne_true (is_up_at after q) (λ u. both_ways current' e (and_from (is_up_at after q) (seen' == n) u (eq-eqb seen' n s))) in
        let none : sent_to q sends ≡ [] = none_sent q sends (λ s k g p. both_ways (is_up_at after q) low (subst (λ (x : ℕ). is_up_at after x ≡ true) p ((laws.sends_distance m ev sound meets s k g).1))) in
        ap (λ ss. live n (held_for seen' ss)) none
    | inr d ↦ live-held_for_other seen' n (sent_to q sends) d
  ]

  -- where the port knows of the session, all that is sent to it is added
  count_added : (k : Kind) → current' ≡ true → count k added_at ≡ count_kind k (sent_to q sends)
  count_added k e = ap (count k) (live-held_for seen' n (sent_to q sends) (seen_now e)) ∙ count-reports_of k (sent_to q sends)

  -- every value that is added is at least the distance after the event
  said : AtLeast after.rd added_at
  said = elim (cases_eq seen' n) [
    | inl s ↦ rw (live-held_for seen' n (sent_to q sends) s) (reports_of_at_least q after.rd sends (λ s k g. (laws.sends_distance m ev sound meets s k g).0))
    | inr d ↦ rw (live-held_for_other seen' n (sent_to q sends) d) tt
  ]

  -- no reply is awaited from a port that is down
  not_awaited : is_up_at m q ≡ false → awaits m q ≡ false
  not_awaited e = false_from_ne_true (awaits m q) (λ a. both_ways (is_up_at m q) e (sound.awaits_up q a))

  -- a port that is down is not the successor
  not_successor : is_up_at m q ≡ false → m.successor ≡ Some q → ⊥
  not_successor e s = both_ways (is_up_at m q) e (sound.successor_up q s there)

  -- no reply is owed to a port that is down
  not_owed : is_up_at m q ≡ false → owes_port m q ≡ false
  not_owed e = false_from_ne_true (owes_port m q) (λ a. both_ways (is_up_at m q) e (sound.owes_up q a))

  -- what is false of a port that is down counts the same with the session's test as without
  counts_same : (a : Bool) → (is_up_at m q ≡ false → a ≡ false) → current' ≡ true → one_if (current && a) ≡ one_if a
  counts_same a f e = elim (cases_Bool current) [
    | inl c ↦ one_if_on current a c
    | inr c ↦ one_if_off current a c ∙ sym (one_if_false a (f (P.comes c e).1))
  ]

  -- a port that does not know of the session takes no message
  none_taken : (k : Kind) → current ≡ false → count k (front taken) ≡ 0
  none_taken k e = ap (λ t. count k (front t)) (P.nothing e)

  -- what is awaited grows by the queries added and falls by the reply taken
  queries : count Reply (front taken) ≤ one_if (current && awaits m q) → one_if (current' && awaits after q) + count Reply (front taken) ≡ one_if (current && awaits m q) + count Query added_at
  queries le = elim (cases_Bool current') [
    | inl on ↦
        let g : one_if (current && awaits m q) ≡ one_if (awaits m q) = counts_same (awaits m q) not_awaited on in
        let g' : one_if (current' && awaits after q) ≡ one_if (awaits after q) = one_if_on current' (awaits after q) on in
        let c : one_if (is_message Reply q ev) ≡ count Reply (front taken) = P.counts Reply in
        let law = laws.counts_queries m ev sound meets q (no_down on) (λ e. is_one (awaits m q) (omega (arith, le, g, c, one_if_true (is_message Reply q ev) e))) in
        let a = count_added Query on in
        omega (arith, g, g', c, law, a)
    | inr off ↦
        let z = one_if_off current (awaits m q) (was_off off) in
        let z' = one_if_off current' (awaits after q) off in
        let t = none_taken Reply (was_off off) in
        let a : count Query added_at ≡ 0 = ap (count Query) (nothing_added off) in
        omega (arith, z, z', t, a)
  ]

  -- what is owed grows by the query taken and falls by the reply added
  replies : one_if (current && owes_port m q) + count Query (front taken) ≤ 1 → one_if (current' && owes_port after q) + count Reply added_at ≡ one_if (current && owes_port m q) + count Query (front taken)
  replies le = elim (cases_Bool current') [
    | inl on ↦
        let g : one_if (current && owes_port m q) ≡ one_if (owes_port m q) = counts_same (owes_port m q) not_owed on in
        let g' : one_if (current' && owes_port after q) ≡ one_if (owes_port after q) = one_if_on current' (owes_port after q) on in
        let c : one_if (is_message Query q ev) ≡ count Query (front taken) = P.counts Query in
        let law = laws.counts_replies m ev sound meets q (no_down on)
        (λ e. false_from_ne_true (owes_port m q) (λ o. omega (arith, le, g, c, one_if_true (is_message Query q ev) e, one_if_true (owes_port m q) o))) in
        let a = count_added Reply on in
        omega (arith, g, g', c, law, a)
    | inr off ↦
        let z = one_if_off current (owes_port m q) (was_off off) in
        let z' = one_if_off current' (owes_port after q) off in
        let t = none_taken Query (was_off off) in
        let a : count Reply added_at ≡ 0 = ap (count Reply) (nothing_added off) in
        omega (arith, z, z', t, a)
  ]

  -- where the feasible distance rises, it is at most the old distance of a computation, and no reply but one just taken was awaited
  rises : current' ≡ true → m.fd < after.fd → (is_active m ≡ true) × (after.fd ≤ m.rd) × (one_if (current && awaits m q) ≤ count Reply (front taken))
  rises on lt =
      let r = laws.rises_at_completion m ev sound meets lt q (up_now on) in
      let g : one_if (current && awaits m q) ≡ one_if (awaits m q) = counts_same (awaits m q) not_awaited on in
      let w : one_if (awaits m q) ≤ count Reply (front taken) = elim (cases_Bool (awaits m q)) [
        | inl a ↦ (let l = P.lets_go (r.2 a) (up_now on) in omega (arith, l, one_if_true (awaits m q) a))
        | inr a ↦ omega (arith, one_if_false (awaits m q) a)
      ] in
      (r.0, r.1, omega (arith, g, w))

  -- an active machine goes on with its computation, or adds a query
  asks : {x x' : End} → x.active ≡ is_active m → x.rd ≡ m.rd → x'.rd ≡ after.rd → current' ≡ true → is_active after ≡ true → GoesOn x x' added_at ⊎ (0 < count Query added_at)
  asks {x} {x'} ea er er' on act = elim (laws.goes_on_or_asks m ev sound meets act) [
    | inl g ↦ inl (record { was = ea ∙ g.0; stays = er' ∙ g.1 ∙ sym er; silent = count_added Query on ∙ g.2 q })
    | inr f ↦ inr (let w = f q (up_now on) in
        let c : 1 ≤ count_kind Query (sent_to q sends) = rw (w.4) (counts_last w.0 w.1 w.2) in
        omega (arith, c, count_added Query on))
  ]

  -- a successor at the port reported less than the feasible distance, or it is the one that an active machine keeps
  chooses : (o : Option NextHop) (pfd : ℕ) (items items' : List SeenItem) (ripe unripe : List SeenHeld) → (current' && is_port q after.successor) ≡ true
      → (reported_at after q < after.fd) ⊎ Keeps (end_of m q seen n o pfd items ripe unripe) (end_of after q seen' n o pfd items' ripe (unripe ++ held_for seen' (sent_to q sends))) added_at
  chooses o pfd items items' ripe unripe e =
      let parts = and_parts current' (is_port q after.successor) e in
      let succ' : after.successor ≡ Some q = is_port-Some q after.successor parts.1 in
      elim (laws.keeps_or_chooses m ev sound meets q succ' (up_now parts.0)) [
        | inl less ↦ inl less
        | inr k ↦
            let on : current ≡ true = true_from_ne_false current (λ off. not_successor (P.comes off parts.0).1 k.0) in
            inr (record {
              was = and_from current (is_port q m.successor) on (is_port_same q m.successor k.0);
              goes_on = k.1;
              grows = k.2;
              silent = count_added Reply parts.0 ∙ laws.keeps_debt m ev sound q k.0 succ' k.1;
            })
      ]

  -- what an event of its machine does to the end at port q
  pub reacts : (o : Option NextHop) (pfd : ℕ) (items items' : List SeenItem) (ripe unripe : List SeenHeld)
      → EndStep (end_of m q seen n o pfd items ripe unripe) (end_of after q seen' n o pfd items' ripe (unripe ++ held_for seen' (sent_to q sends))) taken added_at
  reacts o pfd items items' ripe unripe = record {
    kept_is = live-append n unripe (held_for seen' (sent_to q sends));
    shown_is = refl;
    pfd_is = refl;
    current_stays = P.stays;
    takes_nothing = P.nothing;
    adds_nothing = nothing_added;
    reports = P.reports;
    comes = λ off on. (P.comes off on).0;
    chosen_current = λ e. (and_parts current' (is_port q after.successor) e).0;
    fd_below = sound'.fd_below;
    rd_bounded = sound'.rd_bounded;
    says = said;
    rises = rises;
    chooses = chooses o pfd items items' ripe unripe;
    asks = asks {x = end_of m q seen n o pfd items ripe unripe} {x' = end_of after q seen' n o pfd items' ripe (unripe ++ held_for seen' (sent_to q sends))} refl refl refl;
    queries = queries;
    replies = replies;
  }

-- an end whose machine does nothing makes a step that takes and adds nothing
pub rests : (m : Machine) → IsSound m → (q seen n : ℕ) (o : Option NextHop) (pfd : ℕ) (items items' : List SeenItem) (ripe unripe : List SeenHeld)
    → EndStep (end_of m q seen n o pfd items ripe unripe) (end_of m q seen n o pfd items' ripe unripe) None []
rests m sound q seen n o pfd items items' ripe unripe = record {
  kept_is = sym (append-nil (live n unripe));
  shown_is = refl;
  pfd_is = refl;
  current_stays = λ e. e;
  takes_nothing = λ e. refl;
  adds_nothing = λ e. refl;
  reports = λ e. refl;
  comes = λ off on. absurd (both_ways (is_current m q seen n) off on);
  chosen_current = λ e. (and_parts (is_current m q seen n) (is_port q m.successor) e).0;
  fd_below = sound.fd_below;
  rd_bounded = sound.rd_bounded;
  says = tt;
  rises = λ on lt. absurd (omega (arith, lt));
  chooses = λ e. still e (cases_Bool (is_active m));
  asks = λ on act. inl (record { was = act; stays = refl; silent = refl });
  queries = λ le. refl;
  replies = λ le. refl;
}
  where
    still : (is_current m q seen n && is_port q m.successor) ≡ true → (is_active m ≡ true) ⊎ (is_active m ≡ false)
        → (reported_at m q < m.fd) ⊎ Keeps (end_of m q seen n o pfd items ripe unripe) (end_of m q seen n o pfd items' ripe unripe) []
    still e (inl act) = inr (record { was = e; goes_on = act; grows = omega arith; silent = refl })
    still e (inr pas) =
        let parts = and_parts (is_current m q seen n) (is_port q m.successor) e in
        inl (sound.passive_feasible q pas (is_port-Some q m.successor parts.1) (and_parts (is_up_at m q) (seen == n) parts.0).0)
