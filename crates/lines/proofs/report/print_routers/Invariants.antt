use Rattle.lines.specs.Report.{Prints}
use Rattle.lines.proofs.report.print_routers.Given as goal

abbrev pub invariant-loop-number : goal.invariant-loop-number
invariant-loop-number g l = record {
  printed : Prints (g.W.Write.contents l.initial.out) (g.W.Write.contents l.out);
}
