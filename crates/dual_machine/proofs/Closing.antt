-- The parts of a machine fit together still once a record has changed.
use Rattle.std.proofs.Common.{arith, ap, subst, sym, ◌∙◌, ◌≡◌, ℕ, ◌≤◌, Bool, false, not, ◌↔◌, IsTrue, List, ◌++◌, length, take, Option, Some, None, All, IfSome}
use Rattle.std.specs.{List.list_any, FinSet.contains}
use Rattle.metric.specs.Distance.{IsCost}
use Rattle.diffusing_replies.specs.Ports.{Ports}
use Rattle.network_model.specs.{declared.machine.Event.Event, declared.machine.Neighbour.Neighbour, Machine.records_after, Machine.attachment_after}
use Rattle.dual_machine.specs.{declared.mode.Active.Active, Awaited.awaited_of, Awaited.AwaitsBelow, Event.BringsCost, Parts.IsMachine, Parts.IsUnderWay, Parts.computation_of}
use Rattle.dual_machine.proofs.{Awaiting.asking-done, Changes.refilled, Costs.HasCost-records_after, Costs.HasCost-attachment_after, Room.IsAsking}

-- ---- the records as a change through a slice leaves them: ports is that slice before, new after, and before is the whole list

pub costs_after : (e : Event) (before ports new rest : List Neighbour) → length new ≡ length ports → ports ≡ before → new ≡ records_after e ports → BringsCost e → All (λ n. IsCost n.cost) before → All (λ n. IsCost n.cost) (take (length before) (new ++ rest))
costs_after e before ports new rest whole same is brought costs =
    let HaveCosts = λ (ns : List Neighbour). All (λ n. IsCost n.cost) ns in
    subst HaveCosts (sym (refilled before ports new rest whole same ∙ is)) (HasCost-records_after e ports brought (subst HaveCosts (sym same) costs))

pub IsSound_after : (e : Event) (attachment later : Option ℕ) (before ports new rest : List Neighbour) (s : Option ℕ) (a : Option Active) → length new ≡ length ports → ports ≡ before → new ≡ records_after e ports → later ≡ attachment_after e attachment → BringsCost e
    → length before ≤ 32 → All (λ n. IsCost n.cost) before → IfSome attachment (λ cost. IsCost cost) → IfSome a (IsUnderWay (length before) s) → IsMachine later (take (length before) (new ++ rest)) s a
IsSound_after e attachment later before ports new rest s a whole same is later_is brought few costs attached under_way =
    let kept = refilled before ports new rest whole same in
    let as_many : length before ≡ length new = sym (whole ∙ ap length same) in record {
      few = rw kept (omega arith);
      costs = costs_after e before ports new rest whole same is brought costs;
      attached = subst (λ (o : Option ℕ). IfSome o (λ cost. IsCost cost)) (sym later_is) (HasCost-attachment_after e attachment brought attached);
      under_way = rw kept (rw as_many at under_way);
    }

pub IsAsking-computation_of : (n : ℕ) (s : Option ℕ) (a : Option Active) → IfSome a (IsUnderWay n s) → IsAsking (computation_of n a)
IsAsking-computation_of n s None h = tt
IsAsking-computation_of n s (Some a) h = h.asking

-- someone is awaited after an event exactly where not all replies are there
pub asking_after : (n : ℕ) (s : Option ℕ) (active : Option Active) (a : Active) (new : Ports) (done : Bool) → active ≡ Some a → IfSome active (IsUnderWay n s)
    → ((m : ℕ) → AwaitsBelow m a.replies → AwaitsBelow m new) → (IsTrue done ↔ ((q : ℕ) → contains new q ≡ false)) → list_any (λ b. b) (awaited_of n new) ≡ not done
asking_after n s active a new done is under_way no_more ended =
    let before = subst (λ (o : Option Active). IfSome o (IsUnderWay n s)) is under_way in
    asking-done done new n (no_more n before.known) ended
