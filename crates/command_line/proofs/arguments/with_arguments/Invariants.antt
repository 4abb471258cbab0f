use Rattle.std.proofs.Common.{fold, map, take}
use Rattle.clap.specs.Words.{App, with_rule}
use Rattle.command_line.specs.Commands.{IsProgramCommand, argument_rule}
use Rattle.command_line.proofs.arguments.with_arguments.Given as goal

abbrev pub invariant-loop-done : goal.invariant-loop-done
invariant-loop-done l = record {
  is : (app : App) → IsProgramCommand app l.initial.command → IsProgramCommand (fold with_rule app (map argument_rule (take l.done l.arguments))) l.command;
}
