use Rattle.std.proofs.Common.{arith}
use Rattle.std.proofs.lemmas.Grind.{common_steps}
use Rattle.dual_machine.proofs.Ways.{least-home}
use Rattle.dual_machine.proofs.distances.least.Goals as goal

pub returns-in-Some : goal.returns-in-Some
returns-in-Some c =
    let home = least-home c.args.ports.now c.in-Some.cost in
    grind (arith, common_steps)
