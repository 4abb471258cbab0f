use Rattle.std.proofs.Common.{sym, ap, subst, IfSome, Option, length, ◌∙◌}
use Rattle.std.specs.FinSet.{contains}
use Rattle.diffusing_replies.specs.Ports.{Ports}
use Rattle.dual_machine.specs.{declared.mode.Active.Active, Parts.IsUnderWay, Parts.computation_of, State.MachineState, State.awaits_at}
use Rattle.dual_machine.proofs.Awaiting.{awaited_of-at}
use Rattle.dual_machine.proofs.machine.Machine.mode.Goals as goal

pub returns-in-Some-clause-awaited : goal.returns-in-Some-clause-awaited
returns-in-Some-clause-awaited g c = λ q.
    let i = c.self.inside in
    let n = length (i.ports).items in
    let under_way = subst (λ (a : Option Active). IfSome a (IsUnderWay n i.successor)) c.in-Some.is c.self.invariant.under_way in
    ap (λ (s : Ports). contains s q) c.awaited.ensures
    ∙ sym (awaited_of-at c.in-Some.active.replies n q under_way.known)
    ∙ ap (λ (a : Option Active). awaits_at (computation_of n a) q) (sym c.in-Some.is)
    ∙ ap (λ (s : MachineState). awaits_at (s.machine).computation q) c.self.view_is
