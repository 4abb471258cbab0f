use Rattle.std.proofs.Common.{arith}
use Rattle.texts.proofs.Printed.{part_next}
use Rattle.lines.specs.{declared.line.Line.TheVariants.Waiting, declared.waiting.Waiting.TheVariants.Queued, Formats.printed}
use Rattle.lines.proofs.queues.print_items.Goals as goal

pub loop-item-preserved : goal.loop-item-preserved
loop-item-preserved g c =
    part_next (λ item. printed c.args.printer.now (Waiting (Queued c.args.router c.args.port c.args.session item)))
    c.args.items.now c.loop-item.item-index c.item-item.result _ (g.W.Write.contents c.loop-item.out) (g.W.Write.contents c.print.new.out) (omega arith) c.item-item.is c.loop-item.invariant c.in_ok-print.ensures
