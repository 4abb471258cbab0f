use Rattle.std.proofs.Common.{arith}
use Rattle.std.proofs.lemmas.Grind.{common_steps}
use Rattle.dual_machine.proofs.Awaiting.{awaited_of-without}
use Rattle.dual_machine.proofs.events.end_wait.Goals as goal

pub returns-in-Message-default-Reply-default-clause-awaited : goal.returns-in-Message-default-Reply-default-clause-awaited
returns-in-Message-default-Reply-default-clause-awaited c = λ n.
    let without = awaited_of-without c.args.replies.now c.came.new.self c.in-Message-default-Reply-default.port c.came.ensures n in
    grind (arith, common_steps)

pub returns-in-Down-clause-awaited : goal.returns-in-Down-clause-awaited
returns-in-Down-clause-awaited c = λ n.
    let without = awaited_of-without c.args.replies.now c.lost.new.self c.in-Down.port c.lost.ensures n in
    grind (arith, common_steps)
