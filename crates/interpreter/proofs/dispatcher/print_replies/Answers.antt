use Rattle.std.proofs.Common.{◌≡◌, ap, subst, ◌∙◌, arith}
use Rattle.std.specs.Io.KnownBytes.{Appends}
use Rattle.texts.proofs.Printed.{part_next}
use Rattle.lines.specs.{declared.answers.Asked.TheVariants.Packet, declared.line.Line.TheVariants.Asked, Formats.printed}
use Rattle.interpreter.specs.Dispatching.{reply_text}
use Rattle.interpreter.proofs.dispatcher.print_replies.Goals as goal

pub loop-reply-preserved : goal.loop-reply-preserved
loop-reply-preserved g c =
    let reply = c.reply-item.result in
    let p = c.args.printer.now in
    let mid = g.W.Write.contents c.loop-reply.out in
    let new = g.W.Write.contents c.print.new.out in
    let router : c.router.result ≡ ((reply.job).told).router = c.router.ensures.router ∙ ap (λ j. (j.told).router) c.job-job.ensures in
    let text : printed p (Asked (Packet c.job-job.result.now.number (record { router = c.router.result; addr = c.job-job.result.now.addr; found = c.answer-found.result.matched }))) ≡ reply_text p reply
    = λ i. printed p (Asked (Packet (c.job-job.ensures i).number (record { router = router i; addr = (c.job-job.ensures i).addr; found = (c.answer-found.ensures.answer i).matched }))) in
    part_next (reply_text p) c.args.replies.now c.loop-reply.reply-index reply (g.W.Write.contents c.args.out.now) mid new (omega arith) c.reply-item.is c.loop-reply.invariant
    (subst (Appends mid new) text c.in_ok-print.ensures)
