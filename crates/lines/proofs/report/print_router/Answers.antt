use Rattle.lines.proofs.Printed.{prints_none, prints_more}
use Rattle.lines.proofs.report.print_router.Goals as goal

pub loop-prefix-init : goal.loop-prefix-init
loop-prefix-init g c = record { printed = prints_more (g.W.Write.contents c.args.out.now) (g.W.Write.contents c.args.out.now) (g.W.Write.contents c.print.new.out) _ (prints_none (g.W.Write.contents c.args.out.now)) c.in_ok-print.ensures }

pub loop-prefix-preserved : goal.loop-prefix-preserved
loop-prefix-preserved g c = record {
  printed = prints_more (g.W.Write.contents c.args.out.now) (g.W.Write.contents c.loop-prefix.out) (g.W.Write.contents c.print_machine.new.out) _ c.loop-prefix.invariant.printed c.in_ok-print_machine.ensures.2;
}
