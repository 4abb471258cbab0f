-- The ways in which a machine can react to an event, with the facts that each of them comes with.
use Rattle.std.proofs.Common.{◌≡◌, ◌⊎◌, ℕ, ◌+◌, ◌<◌, ◌≤◌, Bool, true, false, List, [], ◌++◌, Option, Some, None, map, refl, ap, sym, inl, inr, arith, subst, ◌∙◌, slice_get, if◌then◌else◌}
use Rattle.network_model.proofs.Common.{option_map_or, list_any, cases_eq, both_ways, false_from_ne_true, same_Some, none-some, Update, Query, Reply, Machine, Computation, Reaction, ways, port_count, is_port, condition_holds, via_successor, records_after, with_records, asker, one_to, all_from, passive_result, new_computation, with_first, started_computation, passive_reaction, completion, awaited_after, debt_after, answers_at_once, active_reaction, greeting, decision, reaction, changed_at, infinity, slice_get-changed_at_other, one_if}
use Rattle.network_model.specs.{declared.machine.Event.Event, declared.machine.Neighbour.Neighbour}
use Rattle.network_model.specs.declared.machine.Event.TheVariants.{Message, Up, Down, Cost, Attached, Detached}
use Rattle.machine_laws.specs.Laws.{released, test_at, is_up_at, awaits, owes_port, is_active, is_message, is_down, Meets, IsSound}
use Rattle.machine_laws.proofs.{Lists.list_any_nowhere, Lists.test_within, Sends.eqb_same}
use Rattle.machine_laws.proofs.Events.{is_port-Some, is_port_same, asked_by, asked_event, asker_up, released_alone, successor_stays, stays_up}

-- what is owed after an event and what it answers are, together, what was owed and what the event asks
pub record Account (m : Machine) (e : Event) (debt answer : Option ℕ) : Type 0 where
  pub balance : (p : ℕ) → is_down p e ≡ false → (is_message Query p e ≡ true → owes_port m p ≡ false)
      → one_if (is_port p debt) + one_if (is_port p answer) ≡ one_if (owes_port m p) + one_if (is_message Query p e)
  pub debt_successor : (p : ℕ) → debt ≡ Some p → (with_records m e).successor ≡ Some p
  pub debt_up : (p : ℕ) → debt ≡ Some p → is_up_at (with_records m e) p ≡ true
  pub answer_up : (p : ℕ) → answer ≡ Some p → is_up_at (with_records m e) p ≡ true

-- the machine may choose anew with feasible distance fd: nobody is awaited after the event
pub record Decision (m : Machine) (e : Event) (fd : ℕ) : Type 0 where
  pub over : (p : ℕ) → awaits m p ≡ true → released e ≡ Some p
  pub above : m.fd ≤ fd
  pub below : fd ≤ m.rd
  pub rises : m.fd < fd → is_active m ≡ true

-- a computation that begins, with someone up: everyone who is up is asked, after an answer, if there is one
abbrev pub asked : Machine → ℕ → Option ℕ → Option ℕ → Reaction
asked n fd debt answer = record {
  machine = record n { rd = via_successor (ways n) n.successor; fd = fd; computation = Some (record { awaited = map (λ x. x.up) n.ports; debt = debt }) };
  sends = one_to answer Reply (via_successor (ways n) n.successor) ++ all_from 0 None Query (via_successor (ways n) n.successor) n.ports;
}

-- a computation that begins with no one up: the machine is passive without a route
abbrev pub alone : Machine → Reaction
alone n = record { machine = record n { rd = infinity; fd = infinity; successor = None; computation = None }; sends = [] }

-- a computation that goes on
abbrev pub waiting : Machine → Event → List Bool → Option ℕ → Option ℕ → Reaction
waiting n e awaited debt answer = record { machine = record n { computation = Some (record { awaited = awaited_after e awaited; debt = debt }) }; sends = one_to answer Reply n.rd }

-- the ways that a reaction can go, each with the facts that lead to it
pub data Outcome (m : Machine) : Event → Reaction → Type 0 where
  came_up : (q cost : ℕ) → Outcome m (Up q cost) (record { machine = with_records m (Up q cost); sends = greeting m q })
  goes_on : (e : Event) (c : Computation) (debt answer : Option ℕ) → m.computation ≡ Some c → list_any (λ b. b) (awaited_after e c.awaited) ≡ true
      → Account m e debt answer → Outcome m e (waiting (with_records m e) e c.awaited debt answer)
  settles : (e : Event) (fd : ℕ) (owed : Option ℕ) → Decision m e fd → Account m e None owed → condition_holds fd (ways (with_records m e)) ≡ true → Outcome m e (passive_result (with_records m e) fd owed)
  asks : (e : Event) (fd : ℕ) (debt answer : Option ℕ) → Decision m e fd → Account m e debt answer → condition_holds fd (ways (with_records m e)) ≡ false
      → list_any (λ n. n.up) (records_after e m.ports) ≡ true → Outcome m e (asked (with_records m e) fd debt answer)
  is_alone : (e : Event) (fd : ℕ) (debt answer : Option ℕ) → Decision m e fd → Account m e debt answer → condition_holds fd (ways (with_records m e)) ≡ false
      → list_any (λ n. n.up) (records_after e m.ports) ≡ false → Outcome m e (alone (with_records m e))

-- a machine given by its parts decides as a passive one where no computation is under way
passive_at : (a : Option ℕ) (ns : List Neighbour) (rd fd : ℕ) (s : Option ℕ) (o : Option Computation) (e : Event) → o ≡ None
    → decision (record { attachment = a; ports = ns; rd = rd; fd = fd; successor = s; computation = o }) e ≡ passive_reaction (record { attachment = a; ports = ns; rd = rd; fd = fd; successor = s; computation = o }) e
passive_at a ns rd fd s None e k = refl
passive_at a ns rd fd s (Some c) e k = absurd (none-some c (sym k))

-- a machine given by its parts decides as an active one where a computation is under way
active_at : (a : Option ℕ) (ns : List Neighbour) (rd fd : ℕ) (s : Option ℕ) (o : Option Computation) (e : Event) (c : Computation) → o ≡ Some c
    → decision (record { attachment = a; ports = ns; rd = rd; fd = fd; successor = s; computation = o }) e ≡ active_reaction (record { attachment = a; ports = ns; rd = rd; fd = fd; successor = s; computation = o }) e c
active_at a ns rd fd s None e c k = absurd (none-some c k)
active_at a ns rd fd s (Some d) e c k = ap (active_reaction (record { attachment = a; ports = ns; rd = rd; fd = fd; successor = s; computation = Some d }) e) (same_Some d c k)

-- a passive machine decides as a passive one
pub at_passive : (n : Machine) (e : Event) → n.computation ≡ None → decision n e ≡ passive_reaction n e
at_passive n e k = passive_at n.attachment n.ports n.rd n.fd n.successor n.computation e k

-- an active machine decides as an active one
pub at_active : (n : Machine) (e : Event) (c : Computation) → n.computation ≡ Some c → decision n e ≡ active_reaction n e c
at_active n e c k = active_at n.attachment n.ports n.rd n.fd n.successor n.computation e c k

-- ---- what is owed

-- a passive machine owes nothing
passive_owes : (m : Machine) (p : ℕ) → m.computation ≡ None → owes_port m p ≡ false
passive_owes m p h = rw h

-- an active machine owes what its computation does
active_owes : (m : Machine) (c : Computation) (p : ℕ) → m.computation ≡ Some c → owes_port m p ≡ is_port p c.debt
active_owes m c p h = rw h

-- a passive machine owes nothing, and answers whoever asks
account_answer : (m : Machine) (e : Event) → Meets m e → m.computation ≡ None → Account m e None (asker e)
account_answer m e meets h = record {
  balance = λ p d ask. rw (passive_owes m p h, asked_by p e) (omega arith);
  debt_successor = λ p k. absurd (none-some p k);
  debt_up = λ p k. absurd (none-some p k);
  answer_up = λ p k. stays_up m e p ((asked_event p e k).none_down p) (asker_up m p e meets k);
}

-- a passive machine that is asked by its successor may owe the answer
account_debt : (m : Machine) (e : Event) (q : ℕ) → Meets m e → m.computation ≡ None → asker e ≡ Some q → (with_records m e).successor ≡ Some q → Account m e (Some q) None
account_debt m e q meets h a s = record {
  balance = λ p d ask. rw (passive_owes m p h, asked_by p e, a) (omega arith);
  debt_successor = λ p k. s ∙ k;
  debt_up = λ p k. let by : asker e ≡ Some p = a ∙ k in stays_up m e p ((asked_event p e by).none_down p) (asker_up m p e meets by);
  answer_up = λ p k. absurd (none-some p k);
}

-- what is owed may be paid at once
account_paid : (m : Machine) (e : Event) (debt : Option ℕ) → Account m e debt None → Account m e None debt
account_paid m e debt a = record {
  balance = λ p d ask. omega (arith, a.balance p d ask);
  debt_successor = λ p k. absurd (none-some p k);
  debt_up = λ p k. absurd (none-some p k);
  answer_up = a.debt_up;
}

-- an active machine that nobody asks owes what it owed, if that link is not lost
account_same : (m : Machine) (e : Event) (c : Computation) → IsSound m → m.computation ≡ Some c → asker e ≡ None → ((p : ℕ) → c.debt ≡ Some p → is_down p e ≡ false) → Account m e c.debt None
account_same m e c sound h a stays = record {
  balance = λ p d ask. rw (active_owes m c p h, asked_by p e, a) (omega arith);
  debt_successor = λ p k. let o = active_owes m c p h ∙ is_port_same p c.debt k in successor_stays (port_count m) e m.successor p (sound.owes_successor p o) (stays p k) (test_within (λ n. n.up) m.ports p (sound.owes_up p o));
  debt_up = λ p k. stays_up m e p (stays p k) (sound.owes_up p (active_owes m c p h ∙ is_port_same p c.debt k));
  answer_up = λ p k. absurd (none-some p k);
}

-- an active machine owes nothing once the link to the port that it owed a reply is lost
account_lost : (m : Machine) (e : Event) (c : Computation) (q : ℕ) → m.computation ≡ Some c → asker e ≡ None → is_down q e ≡ true → c.debt ≡ Some q → Account m e None None
account_lost m e c q h a l k = record {
  balance = λ p d ask.
      let other : is_port p c.debt ≡ false = false_from_ne_true (is_port p c.debt) (λ t. both_ways (is_down p e) d (subst (λ x. is_down x e ≡ true) (same_Some q p (sym k ∙ is_port-Some p c.debt t)) l)) in
      rw (active_owes m c p h, asked_by p e, a, other) (omega arith);
  debt_successor = λ p j. absurd (none-some p j);
  debt_up = λ p j. absurd (none-some p j);
  answer_up = λ p j. absurd (none-some p j);
}

-- an active machine that its successor asks owes it a reply
account_asked : (m : Machine) (e : Event) (c : Computation) (q : ℕ) → IsSound m → Meets m e → m.computation ≡ Some c → asker e ≡ Some q → m.successor ≡ Some q → Account m e (Some q) None
account_asked m e c q sound meets h a s = record {
  balance = λ p d ask.
      let owed_to_asker : owes_port m p ≡ true → is_message Query p e ≡ true = λ t. asked_by p e ∙ is_port_same p (asker e) (a ∙ sym s ∙ sound.owes_successor p t) in
      let none : owes_port m p ≡ false = false_from_ne_true (owes_port m p) (λ t. both_ways (owes_port m p) (ask (owed_to_asker t)) t) in
      rw (none, asked_by p e, a) (omega arith);
  debt_successor = λ p k. (asked_event q e a).successor_same (port_count m) m.successor ∙ s ∙ k;
  debt_up = λ p k. let by : asker e ≡ Some p = a ∙ k in stays_up m e p ((asked_event p e by).none_down p) (asker_up m p e meets by);
  answer_up = λ p k. absurd (none-some p k);
}

-- an active machine that another port asks answers at once, and owes what it owed
account_other : (m : Machine) (e : Event) (c : Computation) (q : ℕ) → IsSound m → Meets m e → m.computation ≡ Some c → asker e ≡ Some q → Account m e c.debt (Some q)
account_other m e c q sound meets h a = record {
  balance = λ p d ask. rw (active_owes m c p h, asked_by p e, a) (omega arith);
  debt_successor = λ p k. let o = active_owes m c p h ∙ is_port_same p c.debt k in successor_stays (port_count m) e m.successor p (sound.owes_successor p o) ((asked_event q e a).none_down p) (test_within (λ n. n.up) m.ports p (sound.owes_up p o));
  debt_up = λ p k. stays_up m e p ((asked_event q e a).none_down p) (sound.owes_up p (active_owes m c p h ∙ is_port_same p c.debt k));
  answer_up = λ p k. let by : asker e ≡ Some p = a ∙ k in stays_up m e p ((asked_event p e by).none_down p) (asker_up m p e meets by);
}

-- what an active machine owes after an event and answers
record Accounted (m : Machine) (e : Event) (c : Computation) : Type 0 where
  debt : Option ℕ
  answer : Option ℕ
  debt_is : debt_after (with_records m e).successor e c.debt ≡ debt
  answer_is : answers_at_once (with_records m e) e ≡ one_to answer Reply m.rd
  account : Account m e debt answer
  unasked : asker e ≡ None → answer ≡ None

-- an active machine accounts for what it owes and answers
accounted : (m : Machine) (e : Event) (c : Computation) → IsSound m → Meets m e → m.computation ≡ Some c → Accounted m e c
accounted m (Message q Query v) c sound meets h = go (is_port q m.successor) refl
  where
    go : (b : Bool) → is_port q m.successor ≡ b → Accounted m (Message q Query v) c
    go true t = record { debt = Some q; answer = None; debt_is = rw t; answer_is = rw t; account = account_asked m (Message q Query v) c q sound meets h refl (is_port-Some q m.successor t); unasked = λ k. refl }
    go false t = record { debt = c.debt; answer = Some q; debt_is = rw t; answer_is = rw t; account = account_other m (Message q Query v) c q sound meets h refl; unasked = λ k. absurd (none-some q (sym k)) }
accounted m (Message q Update v) c sound meets h = record { debt = c.debt; answer = None; debt_is = refl; answer_is = refl; account = account_same m (Message q Update v) c sound h refl (λ p k. refl); unasked = λ k. refl }
accounted m (Message q Reply v) c sound meets h = record { debt = c.debt; answer = None; debt_is = refl; answer_is = refl; account = account_same m (Message q Reply v) c sound h refl (λ p k. refl); unasked = λ k. refl }
accounted m (Up q cost) c sound meets h = record { debt = c.debt; answer = None; debt_is = refl; answer_is = refl; account = account_same m (Up q cost) c sound h refl (λ p k. refl); unasked = λ k. refl }
accounted m (Cost q cost) c sound meets h = record { debt = c.debt; answer = None; debt_is = refl; answer_is = refl; account = account_same m (Cost q cost) c sound h refl (λ p k. refl); unasked = λ k. refl }
accounted m (Attached cost) c sound meets h = record { debt = c.debt; answer = None; debt_is = refl; answer_is = refl; account = account_same m (Attached cost) c sound h refl (λ p k. refl); unasked = λ k. refl }
accounted m Detached c sound meets h = record { debt = c.debt; answer = None; debt_is = refl; answer_is = refl; account = account_same m Detached c sound h refl (λ p k. refl); unasked = λ k. refl }
accounted m (Down q) c sound meets h = go (is_port q c.debt) refl
  where
    go : (b : Bool) → is_port q c.debt ≡ b → Accounted m (Down q) c
    go true t = record { debt = None; answer = None; debt_is = rw t; answer_is = refl; account = account_lost m (Down q) c q h refl (eqb_same q) (is_port-Some q c.debt t); unasked = λ k. refl }
    go false t = record { debt = c.debt; answer = None; debt_is = rw t; answer_is = refl; account = account_same m (Down q) c sound h refl (λ p k. rw k at t); unasked = λ k. refl }

-- ---- who is awaited

-- a passive machine awaits nobody
passive_awaits : (m : Machine) (p : ℕ) → m.computation ≡ None → awaits m p ≡ false
passive_awaits m p h = rw h

-- an active machine awaits whom its computation does
pub active_awaits : (m : Machine) (c : Computation) (p : ℕ) → m.computation ≡ Some c → awaits m p ≡ test_at (λ b. b) (slice_get c.awaited p)
active_awaits m c p h = rw h

-- after an event all are awaited who were, but the one that it releases
pub awaited_after_is : (e : Event) (bs : List Bool) → awaited_after e bs ≡ option_map_or (λ q. changed_at q (λ b. false) bs) (released e) bs
awaited_after_is (Message q Update value) bs = refl
awaited_after_is _ bs = refl

-- who is not released is awaited as before
pub awaited_kept : (e : Event) (p : ℕ) (bs : List Bool) → (released e ≡ Some p → ⊥) → slice_get (awaited_after e bs) p ≡ slice_get bs p
awaited_kept e p bs other = go (released e) refl
  where
    go : (o : Option ℕ) → released e ≡ o → slice_get (awaited_after e bs) p ≡ slice_get bs p
    go None k = ap (λ xs. slice_get xs p) (awaited_after_is e bs ∙ ap (λ o. option_map_or (λ j. changed_at j (λ b. false) bs) o bs) k)
    go (Some q) k = ap (λ xs. slice_get xs p) (awaited_after_is e bs ∙ ap (λ o. option_map_or (λ j. changed_at j (λ b. false) bs) o bs) k) ∙ slice_get-changed_at_other (λ b. false) q p bs (λ s. other (k ∙ ap Some (sym s)))

-- a test that passes nowhere in a list passes at no place
pub test_nowhere : {A : Type 0} (test : A → Bool) (xs : List A) (p : ℕ) → list_any test xs ≡ false → test_at test (slice_get xs p) ≡ false
test_nowhere test xs p h = go (slice_get xs p) refl
  where
    go : (o : Option _) → slice_get xs p ≡ o → test_at test o ≡ false
    go None k = refl
    go (Some x) k = list_any_nowhere test xs h p x k

-- where nobody is awaited after an event, whoever was awaited is released by it
completed_over : (m : Machine) (e : Event) (c : Computation) (p : ℕ) → m.computation ≡ Some c → list_any (λ b. b) (awaited_after e c.awaited) ≡ false → awaits m p ≡ true → released e ≡ Some p
completed_over m e c p h none a = go (released e) refl
  where
    awaited : test_at (λ b. b) (slice_get c.awaited p) ≡ true
    awaited = sym (active_awaits m c p h) ∙ a

    still : (released e ≡ Some p → ⊥) → ⊥
    still other = both_ways _ (test_nowhere (λ b. b) (awaited_after e c.awaited) p none) (ap (test_at (λ b. b)) (awaited_kept e p c.awaited other) ∙ awaited)

    go : (o : Option ℕ) → released e ≡ o → released e ≡ Some p
    go None k = absurd (still (λ s. none-some p (sym k ∙ s)))
    go (Some q) k = other (cases_eq q p)
      where
        other : (q ≡ p) ⊎ (q ≡ p → ⊥) → released e ≡ Some p
        other (inl s) = k ∙ ap Some s
        other (inr n) = absurd (still (λ s. n (same_Some q p (sym k ∙ s))))

-- ---- decisions

-- a passive machine may choose anew with its feasible distance
decision_passive : (m : Machine) (e : Event) → IsSound m → m.computation ≡ None → Decision m e m.fd
decision_passive m e sound h = record {
  over = λ p a. absurd (both_ways (awaits m p) (passive_awaits m p h) a);
  above = omega arith;
  below = sound.fd_below;
  rises = λ l. absurd (omega (arith, l));
}

-- an active machine may choose anew with its distance once nobody is awaited
decision_active : (m : Machine) (e : Event) (c : Computation) → IsSound m → m.computation ≡ Some c → list_any (λ b. b) (awaited_after e c.awaited) ≡ false → Decision m e m.rd
decision_active m e c sound h none = record {
  over = λ p a. completed_over m e c p h none a;
  above = sound.fd_below;
  below = omega arith;
  rises = λ l. rw h;
}

-- ---- outcomes

-- a computation that begins where the condition fails is one of the outcomes
outcome_begun : (m : Machine) (e : Event) (fd : ℕ) (debt : Option ℕ) → Decision m e fd → Account m e debt None → condition_holds fd (ways (with_records m e)) ≡ false → Outcome m e (new_computation (with_records m e) fd debt)
outcome_begun m e fd debt d a f = go (list_any (λ n. n.up) (records_after e m.ports)) refl
  where
    go : (b : Bool) → list_any (λ n. n.up) (records_after e m.ports) ≡ b → Outcome m e (if b then asked (with_records m e) fd debt None else alone (with_records m e))
    go true t = asks e fd debt None d a f t
    go false t = is_alone e fd debt None d a f t

-- a computation that begins where the condition fails, after an answer, is one of the outcomes
outcome_begun_after : (m : Machine) (e : Event) (fd q : ℕ) (debt : Option ℕ) → Decision m e fd → Account m e debt (Some q) → condition_holds fd (ways (with_records m e)) ≡ false
    → Outcome m e (with_first (one_to (Some q) Reply (via_successor (ways (with_records m e)) (with_records m e).successor)) (new_computation (with_records m e) fd debt))
outcome_begun_after m e fd q debt d a f = go (list_any (λ n. n.up) (records_after e m.ports)) refl
  where
    go : (b : Bool) → list_any (λ n. n.up) (records_after e m.ports) ≡ b
        → Outcome m e (with_first (one_to (Some q) Reply (via_successor (ways (with_records m e)) (with_records m e).successor)) (if b then asked (with_records m e) fd debt None else alone (with_records m e)))
    go true t = asks e fd debt (Some q) d a f t
    go false t = absurd (both_ways _ (test_nowhere (λ n. n.up) (records_after e m.ports) q t) (a.answer_up q refl))

-- a passive machine whose condition fails has an outcome
outcome_started : (m : Machine) (e : Event) → IsSound m → Meets m e → m.computation ≡ None → condition_holds m.fd (ways (with_records m e)) ≡ false → Outcome m e (started_computation (with_records m e) (asker e))
outcome_started m e sound meets h f = go (asker e) refl
  where
    d : Decision m e m.fd
    d = decision_passive m e sound h

    go : (o : Option ℕ) → asker e ≡ o → Outcome m e (started_computation (with_records m e) o)
    go None k = outcome_begun m e m.fd None d (subst (λ o. Account m e None o) k (account_answer m e meets h)) f
    go (Some q) k = by_successor (is_port q (with_records m e).successor) refl
      where
        by_successor : (b : Bool) → is_port q (with_records m e).successor ≡ b
            → Outcome m e (if b then new_computation (with_records m e) m.fd (Some q) else with_first (one_to (Some q) Reply (via_successor (ways (with_records m e)) (with_records m e).successor)) (new_computation (with_records m e) m.fd None))
        by_successor true t = outcome_begun m e m.fd (Some q) d (account_debt m e q meets h k (is_port-Some q (with_records m e).successor t)) f
        by_successor false t = outcome_begun_after m e m.fd q None d (subst (λ o. Account m e None o) k (account_answer m e meets h)) f

outcome_passive : (m : Machine) (e : Event) → IsSound m → Meets m e → m.computation ≡ None → Outcome m e (passive_reaction (with_records m e) e)
outcome_passive m e sound meets h = go (condition_holds m.fd (ways (with_records m e))) refl
  where
    go : (b : Bool) → condition_holds m.fd (ways (with_records m e)) ≡ b → Outcome m e (if b then passive_result (with_records m e) m.fd (asker e) else started_computation (with_records m e) (asker e))
    go true t = settles e m.fd (asker e) (decision_passive m e sound h) (account_answer m e meets h) t
    go false t = outcome_started m e sound meets h t

-- a computation that is over has an outcome
outcome_completed : (m : Machine) (e : Event) (debt : Option ℕ) → IsSound m → Decision m e m.rd → Account m e debt None → Outcome m e (completion (with_records m e) debt)
outcome_completed m e debt sound d a = go (condition_holds m.rd (ways (with_records m e))) refl
  where
    go : (b : Bool) → condition_holds m.rd (ways (with_records m e)) ≡ b → Outcome m e (if b then passive_result (with_records m e) m.rd debt else new_computation (with_records m e) m.rd debt)
    go true t = settles e m.rd debt d (account_paid m e debt a) t
    go false t = outcome_begun m e m.rd debt d a t

outcome_active : (m : Machine) (e : Event) (c : Computation) → IsSound m → Meets m e → m.computation ≡ Some c → Outcome m e (active_reaction (with_records m e) e c)
outcome_active m e c sound meets h = go (list_any (λ b. b) (awaited_after e c.awaited)) refl
  where
    a : Accounted m e c
    a = accounted m e c sound meets h

    over : list_any (λ b. b) (awaited_after e c.awaited) ≡ false → Outcome m e (with_first (answers_at_once (with_records m e) e) (completion (with_records m e) (debt_after (with_records m e).successor e c.debt)))
    over t =
        let d = decision_active m e c sound h t in
        let some = sound.awaits_some (rw h) in
        let none = a.unasked (released_alone some.0 e (d.over some.0 some.1)) in
        let silent = a.answer_is ∙ ap (λ o. one_to o Reply m.rd) none in
        rw (a.debt_is, silent) (outcome_completed m e a.debt sound d (subst (λ o. Account m e a.debt o) none a.account))

    go : (b : Bool) → list_any (λ b. b) (awaited_after e c.awaited) ≡ b
        → Outcome m e (if b then record { machine = record (with_records m e) { computation = Some (record { awaited = awaited_after e c.awaited; debt = debt_after (with_records m e).successor e c.debt }) }; sends = answers_at_once (with_records m e) e }
        else with_first (answers_at_once (with_records m e) e) (completion (with_records m e) (debt_after (with_records m e).successor e c.debt)))
    go true t = rw (a.debt_is, a.answer_is) (goes_on e c a.debt a.answer h t a.account)
    go false t = over t

-- what a machine decides once its records have changed is an outcome
outcome_decision : (m : Machine) (e : Event) → IsSound m → Meets m e → Outcome m e (decision (with_records m e) e)
outcome_decision m e sound meets = by_mode m.computation refl
  where
    by_mode : (o : Option Computation) → m.computation ≡ o → Outcome m e (decision (with_records m e) e)
    by_mode None h = rw (at_passive (with_records m e) e h) (outcome_passive m e sound meets h)
    by_mode (Some c) h = rw (at_active (with_records m e) e c h) (outcome_active m e c sound meets h)

-- the reaction of a sound machine to an event that it meets is one of the outcomes
pub outcome : (m : Machine) (e : Event) → IsSound m → Meets m e → Outcome m e (reaction m e)
outcome m (Message q k v) sound meets = outcome_decision m (Message q k v) sound meets
outcome m (Up q cost) sound meets = came_up q cost
outcome m (Down q) sound meets = outcome_decision m (Down q) sound meets
outcome m (Cost q cost) sound meets = outcome_decision m (Cost q cost) sound meets
outcome m (Attached cost) sound meets = outcome_decision m (Attached cost) sound meets
outcome m Detached sound meets = outcome_decision m Detached sound meets
