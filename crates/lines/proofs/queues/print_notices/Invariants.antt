use Rattle.std.proofs.Common.{take}
use Rattle.std.specs.Io.KnownBytes.{Appends}
use Rattle.lines.specs.Waiting.{noticed_lines}
use Rattle.lines.proofs.queues.print_notices.Given as goal

abbrev pub invariant-loop-notice : goal.invariant-loop-notice
invariant-loop-notice g l = Appends (g.W.Write.contents l.initial.out) (g.W.Write.contents l.out) (noticed_lines l.printer l.router (take l.notice-index l.notices))
