use Rattle.std.proofs.Common.{sym, ap, subst, IfSome, Option, length, ◌∙◌}
use Rattle.std.specs.FinSet.{contains}
use Rattle.diffusing_replies.specs.Ports.{Ports}
use Rattle.dual_machine.specs.{declared.mode.Active.Active, Parts.IsUnderWay, Parts.computation_of, State.MachineState, State.awaits_at}
use Rattle.dual_machine.proofs.Awaiting.{awaited_of-at}
use Rattle.dual_machine.proofs.machine.Machine.awaits.Goals as goal

pub returns-in-Some : goal.returns-in-Some
returns-in-Some g c =
    let i = c.self.inside in
    let n = length (i.ports).items in
    let under_way = subst (λ (a : Option Active). IfSome a (IsUnderWay n i.successor)) c.in-Some.is c.self.invariant.under_way in
    c.has.ensures.value ∙ ap (λ (s : Ports). contains s c.args.port) c.awaited.ensures
    ∙ sym (awaited_of-at c.in-Some.active.replies n c.args.port under_way.known)
    ∙ ap (λ (a : Option Active). awaits_at (computation_of n a) c.args.port) (sym c.in-Some.is)
    ∙ ap (λ (s : MachineState). awaits_at (s.machine).computation c.args.port) c.self.view_is
