use Rattle.std.proofs.Common.{arith}
use Rattle.command_line.proofs.Building.{next, whole}
use Rattle.command_line.proofs.arguments.with_arguments.Goals as goal

pub loop-done-init : goal.loop-done-init
loop-done-init c = record { is = λ app is. is }

pub loop-done-preserved : goal.loop-done-preserved
loop-done-preserved c = record {
  is = λ app is.
      next c.args.arguments.now c.loop-done.done c.loop-done.command c.in_ok-command.command c.arg.result app
      (omega arith) (c.loop-done.invariant.is app is) c.in_ok-command.ensures c.arg.ensures.rule c.arg.ensures.local;
}

pub returns : goal.returns
returns c = λ app is. whole c.args.arguments.now c.loop-done.done c.loop-done.command app (omega arith) (c.loop-done.invariant.is app is)
