use Rattle.std.proofs.Common.{arith}
use Rattle.texts.proofs.Printed.{part_next}
use Rattle.lines.specs.{declared.line.Line.TheVariants.Waiting, declared.waiting.Waiting.TheVariants.Kept, Formats.printed}
use Rattle.lines.proofs.queues.print_held.Goals as goal

pub loop-held-preserved : goal.loop-held-preserved
loop-held-preserved g c =
    part_next (λ held. printed c.args.printer.now (Waiting (Kept c.args.router c.args.ripe held)))
    c.args.messages.now c.loop-held.held-index c.held-item.result _ (g.W.Write.contents c.loop-held.out) (g.W.Write.contents c.print.new.out) (omega arith) c.held-item.is c.loop-held.invariant c.in_ok-print.ensures
