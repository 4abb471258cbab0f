use Rattle.lines.specs.Report.{Prints}
use Rattle.lines.proofs.report.print_links.Given as goal

abbrev pub invariant-loop-link : goal.invariant-loop-link
invariant-loop-link g l = record {
  printed : Prints (g.W.Write.contents l.initial.out) (g.W.Write.contents l.out);
}
