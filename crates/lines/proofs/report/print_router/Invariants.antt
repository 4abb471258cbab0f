use Rattle.lines.specs.Report.{Prints}
use Rattle.lines.proofs.report.print_router.Given as goal

abbrev pub invariant-loop-prefix : goal.invariant-loop-prefix
invariant-loop-prefix g l = record {
  printed : Prints (g.W.Write.contents l.fn.out) (g.W.Write.contents l.out);
}
