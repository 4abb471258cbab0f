-- How many messages an event sends at most.
use Rattle.std.proofs.Common.{refl, arith, length-append, ◌≡◌, ℕ, zero, suc, ◌+◌, ◌≤◌, Bool, true, false, not, ◌&&◌, cond, ◌==◌, if◌then◌else◌, List, [], ◌∷◌, Option, Some, None, filter, length, IfSome}
use Rattle.std.specs.List.{list_any}
use Rattle.std.proofs.lemmas.List.Sums.{length-filter}
use Rattle.metric.specs.{Distance.infinity, declared.kind.Kind.Kind, declared.kind.Kind.TheVariants.Update, declared.kind.Kind.TheVariants.Query, declared.kind.Kind.TheVariants.Reply}
use Rattle.network_model.specs.{declared.machine.Event.Event, declared.machine.Neighbour.Neighbour, declared.machine.Outgoing.Outgoing}
use Rattle.network_model.specs.declared.machine.Event.TheVariants.{Message, Up, Down, Cost, Attached, Detached}
use Rattle.network_model.specs.Machine.{Machine, Computation, Reaction, ways, changed_at, records_after, one_to, all_from, news_to_others, is_port, passive_result, new_computation, started_computation, completion, via_successor, condition_holds, least, asker, awaited_after, debt_after, active_reaction, passive_reaction, decision, with_records, greeting, reaction}
use Rattle.dual_machine.specs.Outbox.{most_sent}

-- how many are up, by recursion from the right
abbrev up_count : List Neighbour → ℕ
up_count ns = length (filter (λ n. n.up) ns)

length-if : {A : Type 0} (b : Bool) (xs ys : List A) (n : ℕ) → length xs ≤ n → length ys ≤ n → length (if b then xs else ys) ≤ n
length-if true xs ys n h k = h
length-if false xs ys n h k = k

sends-if : (b : Bool) (r s : Reaction) (n : ℕ) → length r.sends ≤ n → length s.sends ≤ n → length (if b then r else s).sends ≤ n
sends-if true r s n h k = h
sends-if false r s n h k = k

length-all_from : (q : ℕ) (but : Option ℕ) (kind : Kind) (value : ℕ) (ns : List Neighbour) → length (all_from q but kind value ns) ≤ up_count ns
length-all_from q but kind value [] = omega arith
length-all_from q but kind value (n ∷ ns) = by_tests n.up (not (is_port q but)) (all_from (suc q) but kind value ns) (filter (λ n. n.up) ns) (length-all_from (suc q) but kind value ns)
  where
    by_tests : (a b : Bool) (rest : List Outgoing) (us : List Neighbour) → length rest ≤ length us → length (if a && b then record { port = q; kind = kind; value = value } ∷ rest else rest) ≤ length (cond a (n ∷ us) us)
    by_tests true true rest us h = omega (arith, h)
    by_tests true false rest us h = omega (arith, h)
    by_tests false true rest us h = omega (arith, h)
    by_tests false false rest us h = omega (arith, h)

length-one_to : (p : Option ℕ) (kind : Kind) (value : ℕ) → length (one_to p kind value) ≤ 1
length-one_to None kind value = omega arith
length-one_to (Some q) kind value = omega arith

length-news_to_others : (but : Option ℕ) (old new : ℕ) (ns : List Neighbour) → length (news_to_others but old new ns) ≤ up_count ns
length-news_to_others but old new ns = length-if (old == new) [] (all_from 0 but Update new ns) (up_count ns) (omega arith) (length-all_from 0 but Update new ns)

length-passive_result : (m : Machine) (fd : ℕ) (owed : Option ℕ) → length (passive_result m fd owed).sends ≤ up_count m.ports + 1
length-passive_result m fd owed =
    omega (arith, length-append (one_to owed Reply (least (ways m))) (news_to_others owed m.rd (least (ways m)) m.ports), length-one_to owed Reply (least (ways m)), length-news_to_others owed m.rd (least (ways m)) m.ports)

length-new_computation : (m : Machine) (fd : ℕ) (debt : Option ℕ) → length (new_computation m fd debt).sends ≤ up_count m.ports
length-new_computation m fd debt =
    sends-if (list_any (λ n. n.up) m.ports) _ _ (up_count m.ports) (length-all_from 0 None Query (via_successor (ways m) m.successor) m.ports) (omega arith)

length-started_computation : (m : Machine) (asked : Option ℕ) → length (started_computation m asked).sends ≤ up_count m.ports + 1
length-started_computation m None = omega (arith, length-new_computation m m.fd None)
length-started_computation m (Some q) =
    sends-if (is_port q m.successor) _ _ (up_count m.ports + 1) (omega (arith, length-new_computation m m.fd (Some q)))
    (omega (arith, length-append (one_to (Some q) Reply (via_successor (ways m) m.successor)) (new_computation m m.fd None).sends, length-new_computation m m.fd None))

length-completion : (m : Machine) (debt : Option ℕ) → length (completion m debt).sends ≤ up_count m.ports + 1
length-completion m debt =
    sends-if (condition_holds m.rd (ways m)) _ _ (up_count m.ports + 1) (length-passive_result m m.rd debt) (omega (arith, length-new_computation m m.rd debt))

length-passive_reaction : (m : Machine) (e : Event) → length (passive_reaction m e).sends ≤ up_count m.ports + 1
length-passive_reaction m e =
    sends-if (condition_holds m.fd (ways m)) _ _ (up_count m.ports + 1) (length-passive_result m m.fd (asker e)) (length-started_computation m (asker e))

length-active_reaction : (m : Machine) (e : Event) (c : Computation) → list_any (λ b. b) c.awaited ≡ true → length (active_reaction m e c).sends ≤ up_count m.ports + 1
length-active_reaction m (Message q Query value) c asking =
    rw asking (length-if (is_port q m.successor) [] _ (up_count m.ports + 1) (omega arith) (omega arith))
length-active_reaction m (Message q Update value) c asking =
    sends-if (list_any (λ b. b) (awaited_after (Message q Update value) c.awaited)) _ _ (up_count m.ports + 1) (omega arith) (length-completion m c.debt)
length-active_reaction m (Message q Reply value) c asking =
    sends-if (list_any (λ b. b) (awaited_after (Message q Reply value) c.awaited)) _ _ (up_count m.ports + 1) (omega arith) (length-completion m c.debt)
length-active_reaction m (Up q cost) c asking =
    sends-if (list_any (λ b. b) (awaited_after (Up q cost) c.awaited)) _ _ (up_count m.ports + 1) (omega arith) (length-completion m c.debt)
length-active_reaction m (Down q) c asking =
    sends-if (list_any (λ b. b) (awaited_after (Down q) c.awaited)) _ _ (up_count m.ports + 1) (omega arith) (length-completion m (debt_after m.successor (Down q) c.debt))
length-active_reaction m (Cost q cost) c asking =
    sends-if (list_any (λ b. b) (awaited_after (Cost q cost) c.awaited)) _ _ (up_count m.ports + 1) (omega arith) (length-completion m c.debt)
length-active_reaction m (Attached cost) c asking =
    sends-if (list_any (λ b. b) c.awaited) _ _ (up_count m.ports + 1) (omega arith) (length-completion m c.debt)
length-active_reaction m Detached c asking =
    sends-if (list_any (λ b. b) c.awaited) _ _ (up_count m.ports + 1) (omega arith) (length-completion m c.debt)

-- a computation under way awaits someone
abbrev pub IsAsking : Option Computation → Type 0
IsAsking o = IfSome o (λ c. list_any (λ b. b) c.awaited ≡ true)

length-decision : (m : Machine) (e : Event) → IsAsking m.computation → length (decision m e).sends ≤ up_count m.ports + 1
length-decision m e asking = by_mode m.computation refl asking
  where
    by_mode : (o : Option Computation) → m.computation ≡ o → IsAsking o → length (decision m e).sends ≤ up_count m.ports + 1
    by_mode None mode asks = rw mode (length-passive_reaction (record m { computation = None }) e)
    by_mode (Some c) mode asks = rw mode (length-active_reaction (record m { computation = Some c }) e c asks)

up_count-changed_at : (f : Neighbour → Neighbour) → ((n : Neighbour) → (f n).up && not n.up ≡ false) → (k : ℕ) (ns : List Neighbour) → up_count (changed_at k f ns) ≤ up_count ns
up_count-changed_at f less k [] = omega arith
up_count-changed_at f less zero (n ∷ ns) = by_tests (f n).up n.up (filter (λ n. n.up) ns) (less n)
  where
    by_tests : (a b : Bool) (us : List Neighbour) → a && not b ≡ false → length (cond a (f n ∷ us) us) ≤ length (cond b (n ∷ us) us)
    by_tests true true us h = omega arith
    by_tests true false us h = cc
    by_tests false true us h = omega arith
    by_tests false false us h = omega arith
up_count-changed_at f less (suc k) (n ∷ ns) = by_test n.up (filter (λ n. n.up) (changed_at k f ns)) (filter (λ n. n.up) ns) (up_count-changed_at f less k ns)
  where
    by_test : (a : Bool) (us vs : List Neighbour) → length us ≤ length vs → length (cond a (n ∷ us) us) ≤ length (cond a (n ∷ vs) vs)
    by_test true us vs h = omega (arith, h)
    by_test false us vs h = h

same_up : (b : Bool) → b && not b ≡ false
same_up true = refl
same_up false = refl

-- the bound, where no neighbour comes up
length-decision_after : (m : Machine) (e : Event) → up_count (records_after e m.ports) ≤ up_count m.ports → IsAsking m.computation → length (decision (with_records m e) e).sends ≤ most_sent m.ports
length-decision_after m e less asking = omega (arith, length-decision (with_records m e) e asking, length-filter (λ n. n.up) m.ports)

length-greeting : (m : Machine) (q : ℕ) → length (greeting m q) ≤ 1
length-greeting m q = length-if (m.rd == infinity) [] _ 1 (omega arith) (omega arith)

pub length-reaction : (m : Machine) (e : Event) → IsAsking m.computation → length (reaction m e).sends ≤ most_sent m.ports
length-reaction m (Message q kind value) asking =
    length-decision_after m (Message q kind value) (up_count-changed_at (λ n. record { up = n.up; cost = n.cost; reported = value }) (λ n. same_up n.up) q m.ports) asking
length-reaction m (Up q cost) asking = omega (arith, length-greeting m q)
length-reaction m (Down q) asking =
    length-decision_after m (Down q) (up_count-changed_at (λ n. record { up = false; cost = n.cost; reported = n.reported }) (λ n. refl) q m.ports) asking
length-reaction m (Cost q cost) asking =
    length-decision_after m (Cost q cost) (up_count-changed_at (λ n. record { up = n.up; cost = cost; reported = n.reported }) (λ n. same_up n.up) q m.ports) asking
length-reaction m (Attached cost) asking = length-decision_after m (Attached cost) (omega arith) asking
length-reaction m Detached asking = length-decision_after m Detached (omega arith) asking

-- an event other than Up is decided
pub reaction-decision : (m : Machine) (e : Event) → ((q cost : ℕ) → e ≡ Up q cost → ⊥) → reaction m e ≡ decision (with_records m e) e
reaction-decision m (Up q cost) other = absurd (other q cost refl)
reaction-decision m _ other = refl
