use Rattle.std.proofs.Common.{take}
use Rattle.std.specs.Io.KnownBytes.{Appends}
use Rattle.lines.specs.Waiting.{queued_lines}
use Rattle.lines.proofs.queues.print_items.Given as goal

abbrev pub invariant-loop-item : goal.invariant-loop-item
invariant-loop-item g l = Appends (g.W.Write.contents l.initial.out) (g.W.Write.contents l.out) (queued_lines l.printer l.router l.port l.session (take l.item-index l.items))
