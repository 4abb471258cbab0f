use Rattle.std.proofs.Common.{arith}
use Rattle.texts.proofs.Printed.{part_next}
use Rattle.lines.specs.{declared.line.Line.TheVariants.Waiting, declared.waiting.Waiting.TheVariants.Noticed, Formats.printed}
use Rattle.lines.proofs.queues.print_notices.Goals as goal

pub loop-notice-preserved : goal.loop-notice-preserved
loop-notice-preserved g c =
    part_next (λ notice. printed c.args.printer.now (Waiting (Noticed c.args.router notice)))
    c.args.notices.now c.loop-notice.notice-index c.notice-item.result _ (g.W.Write.contents c.loop-notice.out) (g.W.Write.contents c.print.new.out) (omega arith) c.notice-item.is c.loop-notice.invariant c.in_ok-print.ensures
