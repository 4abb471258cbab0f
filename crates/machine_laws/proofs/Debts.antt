-- A machine that is active after an event sends no reply to the successor that it has kept.
use Rattle.std.proofs.Common.{refl, sym, ◌∙◌, arith, inl, inr, ◌≡◌, ℕ, Bool, true, false, if◌then◌else◌, List, ◌++◌, Option, Some, None, ne_eqb}
use Rattle.network_model.proofs.Common.{list_any, cases_Bool, false≢true, eqb-false, Query, Reply, Machine, Computation, Reaction, decision, with_records, new_computation, started_computation, completion, passive_result, with_first, one_to, answers_at_once, asker, awaited_after, debt_after, condition_holds, passive_reaction, active_reaction, is_port, via_successor, ways}
use Rattle.network_model.specs.{declared.machine.Event.Event, declared.machine.Neighbour.Neighbour, declared.machine.Outgoing.Outgoing}
use Rattle.network_model.specs.declared.machine.Event.TheVariants.{Message, Up, Down, Cost, Attached, Detached}
use Rattle.machine_laws.specs.Laws.{is_active, sent_to, count_kind, KeepsDebt}
use Rattle.machine_laws.proofs.{Sends.count_all, Counting.count_both, Counting.greeting_count}

-- no reply to port p among the messages
abbrev Silent : ℕ → List Outgoing → Type 0
Silent p ss = count_kind Reply (sent_to p ss) ≡ 0

-- two lists without a reply to port p have none in a row
silent_append : (p : ℕ) (xs ys : List Outgoing) → Silent p xs → Silent p ys → Silent p (xs ++ ys)
silent_append p xs ys h g = omega (arith, count_both Reply p xs ys, h, g)

-- a reply to another port is none to port p
silent_one : (p q v : ℕ) → (q ≡ p → ⊥) → Silent p (one_to (Some q) Reply v)
silent_one p q v d = rw (ne_eqb q p d) refl

-- where the reaction leaves port p as successor and the machine active, it sends no reply to p
abbrev Quiet : ℕ → Reaction → Type 0
Quiet p r = r.machine.successor ≡ Some p → is_active r.machine ≡ true → Silent p r.sends

-- of two quiet reactions, either is quiet
quiet_if : (b : Bool) (r s : Reaction) (p : ℕ) → (b ≡ true → Quiet p r) → (b ≡ false → Quiet p s) → Quiet p (if b then r else s)
quiet_if true r s p f g = f refl
quiet_if false r s p f g = g refl

-- where the successor after each of two reactions is one from before, so is that after either
keeps_if : (b : Bool) (r s : Reaction) (p : ℕ) (o : Option ℕ) → (r.machine.successor ≡ Some p → o ≡ Some p) → (s.machine.successor ≡ Some p → o ≡ Some p)
    → (if b then r else s).machine.successor ≡ Some p → o ≡ Some p
keeps_if true r s p o f g = f
keeps_if false r s p o f g = g

-- the successor after a computation has begun was the successor before
begun_keeps : (m : Machine) (fd : ℕ) (debt : Option ℕ) (p : ℕ) → (new_computation m fd debt).machine.successor ≡ Some p → m.successor ≡ Some p
begun_keeps m fd debt p = keeps_if (list_any (λ n. n.up) m.ports) _ _ p m.successor (λ e. e) (λ e. cc)

-- a computation that begins is quiet
quiet_begun : (m : Machine) (fd : ℕ) (debt : Option ℕ) (p : ℕ) → Quiet p (new_computation m fd debt)
quiet_begun m fd debt p = quiet_if (list_any (λ n. n.up) m.ports) _ _ p (λ b e a. count_all Reply Query p None (via_successor (ways m) m.successor) m.ports) (λ b e a. refl)

-- a machine that is passive after the event is quiet
quiet_settled : (m : Machine) (fd : ℕ) (owed : Option ℕ) (p : ℕ) → Quiet p (passive_result m fd owed)
quiet_settled m fd owed p e a = absurd (false≢true a)

-- a computation that is over is quiet
quiet_completed : (m : Machine) (debt : Option ℕ) (p : ℕ) → Quiet p (completion m debt)
quiet_completed m debt p = quiet_if (condition_holds m.rd (ways m)) (passive_result m m.rd debt) (new_computation m m.rd debt) p (λ b. quiet_settled m m.rd debt p) (λ b. quiet_begun m m.rd debt p)

-- a port that fails the test for the successor is another port
not_this : (q p : ℕ) (s : Option ℕ) → s ≡ Some p → is_port q s ≡ false → q ≡ p → ⊥
not_this q p None e b d = cc
not_this q p (Some k) e b d = let g : q ≡ k = (let f : k ≡ p = cc in d ∙ sym f) in eqb-false q k b g

-- a computation that an event begins is quiet
quiet_started : (m : Machine) (a : Option ℕ) (p : ℕ) → Quiet p (started_computation m a)
quiet_started m None p = quiet_begun m m.fd None p
quiet_started m (Some q) p = quiet_if (is_port q m.successor) _ _ p (λ b. quiet_begun m m.fd (Some q) p)
    (λ b e a. silent_append p (one_to (Some q) Reply (via_successor (ways m) m.successor)) (new_computation m m.fd None).sends
    (silent_one p q (via_successor (ways m) m.successor) (not_this q p m.successor (begun_keeps m m.fd None p e) b)) (quiet_begun m m.fd None p e a))

-- a passive machine's reaction is quiet
quiet_passive : (m : Machine) (e : Event) (p : ℕ) → Quiet p (passive_reaction m e)
quiet_passive m e p = quiet_if (condition_holds m.fd (ways m)) (passive_result m m.fd (asker e)) (started_computation m (asker e)) p (λ b. quiet_settled m m.fd (asker e) p) (λ b. quiet_started m (asker e) p)

-- an active machine does not answer its successor at once
silent_answered : (m : Machine) (e : Event) (p : ℕ) → m.successor ≡ Some p → Silent p (answers_at_once m e)
silent_answered m (Message q Query v) p s = elim (cases_Bool (is_port q m.successor)) [
  | inl b ↦ rw b refl
  | inr b ↦ rw b (silent_one p q m.rd (not_this q p m.successor s b))
]
silent_answered m _ p s = refl

-- where the machine is active after a computation that is over, its successor was the successor before
completed_keeps : (m : Machine) (debt : Option ℕ) (p : ℕ) → is_active (completion m debt).machine ≡ true → (completion m debt).machine.successor ≡ Some p → m.successor ≡ Some p
completed_keeps m debt p = by_test (condition_holds m.rd (ways m))
  where
    by_test : (b : Bool) → is_active (if b then passive_result m m.rd debt else new_computation m m.rd debt).machine ≡ true → (if b then passive_result m m.rd debt else new_computation m m.rd debt).machine.successor ≡ Some p → m.successor ≡ Some p
    by_test true a e = absurd (false≢true a)
    by_test false a e = begun_keeps m m.rd debt p e

-- an active machine's reaction is quiet
quiet_active : (m : Machine) (e : Event) (c : Computation) (p : ℕ) → Quiet p (active_reaction m e c)
quiet_active m e c p = quiet_if (list_any (λ b. b) (awaited_after e c.awaited)) _ (with_first (answers_at_once m e) (completion m (debt_after m.successor e c.debt))) p
    (λ b s a. silent_answered m e p s)
    (λ b s a. silent_append p (answers_at_once m e) (completion m (debt_after m.successor e c.debt)).sends
    (silent_answered m e p (completed_keeps m (debt_after m.successor e c.debt) p a s)) (quiet_completed m (debt_after m.successor e c.debt) p s a))

-- what a machine given by its parts decides is quiet
quiet_decision_of : (a : Option ℕ) (ns : List Neighbour) (rd fd : ℕ) (s : Option ℕ) (c : Option Computation) (e : Event) (p : ℕ)
    → Quiet p (decision (record { attachment = a; ports = ns; rd = rd; fd = fd; successor = s; computation = c }) e)
quiet_decision_of a ns rd fd s None e p = quiet_passive (record { attachment = a; ports = ns; rd = rd; fd = fd; successor = s; computation = None }) e p
quiet_decision_of a ns rd fd s (Some c) e p = quiet_active (record { attachment = a; ports = ns; rd = rd; fd = fd; successor = s; computation = Some c }) e c p

-- what a machine decides once its records have changed is quiet
quiet_decision : (m : Machine) (e : Event) (p : ℕ) → Quiet p (decision (with_records m e) e)
quiet_decision m e p = quiet_decision_of (with_records m e).attachment (with_records m e).ports m.rd m.fd (with_records m e).successor m.computation e p

-- a machine that is active after an event, and has kept its successor, sent no reply to it
pub keeps_debt : KeepsDebt
keeps_debt m (Up q c) sound p s s' a = greeting_count Reply m p q refl
keeps_debt m (Message q k v) sound p s s' a = quiet_decision m (Message q k v) p s' a
keeps_debt m (Down q) sound p s s' a = quiet_decision m (Down q) p s' a
keeps_debt m (Cost q c) sound p s s' a = quiet_decision m (Cost q c) p s' a
keeps_debt m (Attached c) sound p s s' a = quiet_decision m (Attached c) p s' a
keeps_debt m Detached sound p s s' a = quiet_decision m Detached p s' a
