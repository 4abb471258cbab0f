use Rattle.std.proofs.Common.{take}
use Rattle.interpreter.specs.Commands.{AreDone}
use Rattle.interpreter.proofs.interpreter.do_commands.Given as goal

abbrev pub invariant-loop-position : goal.invariant-loop-position
invariant-loop-position g l = AreDone g.N.Live.meaning (take l.position l.commands) l.initial.net l.net
