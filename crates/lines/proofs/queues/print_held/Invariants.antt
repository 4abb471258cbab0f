use Rattle.std.proofs.Common.{take}
use Rattle.std.specs.Io.KnownBytes.{Appends}
use Rattle.lines.specs.Waiting.{held_lines}
use Rattle.lines.proofs.queues.print_held.Given as goal

abbrev pub invariant-loop-held : goal.invariant-loop-held
invariant-loop-held g l = Appends (g.W.Write.contents l.initial.out) (g.W.Write.contents l.out) (held_lines l.printer l.router l.ripe (take l.held-index l.messages))
