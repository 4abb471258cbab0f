use Rattle.std.proofs.Common.{◌||◌, ◌==◌, ap, ◌∙◌, arith}
use Rattle.std.specs.FinSet.{contains}
use Rattle.diffusing_replies.specs.Ports.{Ports}
use Rattle.dual_machine.proofs.Awaiting.{is_up_at-at, more_up, more_down, all_up}
use Rattle.dual_machine.proofs.events.up_ports.Goals as goal
use Rattle.dual_machine.proofs.events.up_ports.Goals.{then-neighbour, else-neighbour}

pub loop-port-preserved : goal.loop-port-preserved
loop-port-preserved c = λ q.
    let ports = c.args.ports.now in
    let i = c.loop-port.port in
    let here = is_up_at-at ports i c.index-ports-port.result (omega arith) c.index-ports-port.is in
    elim c.if-neighbour.branch [
      | then-neighbour w ↦ ap (λ (s : Ports). contains s q) w.up-is ∙ w.with-up.ensures q ∙ ap (λ b. q == i || b) (c.loop-port.invariant q) ∙ more_up ports q i (here ∙ w.if-neighbour.true)
      | else-neighbour w ↦ ap (λ (s : Ports). contains s q) w.up-is ∙ c.loop-port.invariant q ∙ more_down ports q i (here ∙ w.if-neighbour.false)
    ]

pub returns : goal.returns
returns c = λ q. c.loop-port.invariant q ∙ all_up c.args.ports.now q c.loop-port.port (omega arith)
