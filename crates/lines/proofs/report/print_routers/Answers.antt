use Rattle.lines.proofs.Printed.{prints_none, prints_both}
use Rattle.lines.proofs.report.print_routers.Goals as goal

pub loop-number-init : goal.loop-number-init
loop-number-init g c = record { printed = prints_none (g.W.Write.contents c.args.out.now) }

pub loop-number-preserved : goal.loop-number-preserved
loop-number-preserved g c = record {
  printed = prints_both (g.W.Write.contents c.args.out.now) (g.W.Write.contents c.loop-number.out) (g.W.Write.contents c.print_router.new.out) c.loop-number.invariant.printed c.in_ok-print_router.ensures;
}
