use Rattle.lines.proofs.Printed.{prints_none, prints_more}
use Rattle.lines.proofs.report.print_links.Goals as goal

pub loop-link-init : goal.loop-link-init
loop-link-init g c = record { printed = prints_none (g.W.Write.contents c.args.out.now) }

pub loop-link-preserved : goal.loop-link-preserved
loop-link-preserved g c = record {
  printed = prints_more (g.W.Write.contents c.args.out.now) (g.W.Write.contents c.loop-link.out) (g.W.Write.contents c.print.new.out) _ c.loop-link.invariant.printed c.in_ok-print.ensures;
}
