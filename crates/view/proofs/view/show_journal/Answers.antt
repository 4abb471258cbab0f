use Rattle.std.proofs.Common.{[], subst, take}
use Rattle.plans.proofs.Planned.{IsPlanned}
use Rattle.play.proofs.Replays.{journal_of}
use Rattle.view.specs.Shown.{IsWritten}
use Rattle.view.proofs.Written.{CameTo, shown_whole}
use Rattle.view.proofs.view.show_journal.Goals as goal

pub returns : goal.returns
returns g c = λ done.
    let none = c.end_of.ensures done in
    let plan = c.in_ok-network.field-0 in
    let text = c.args.text.now in
    let lines = c.in_ok-lines.lines.items in
    let planned : IsPlanned text plan = c.in_ok-network.ensures.ok in
    let read = c.in_ok-journal.journal in
    let steps = read.steps.items in
    let ran = c.in_ok-ran.ran in
    let old = g.W.Write.contents c.args.out.now in
    let new = g.W.Write.contents c.write_steps.new.out in
    let journal = journal_of text lines c.deref.result.now plan c.names.result.now c.links.result.now c.attachments.result.now read.version steps read.report.now
    c.requires planned c.names.ensures c.links.ensures.links c.attachments.ensures.attachments c.deref.ensures.value c.in_ok-journal.ensures.ok in
    let came = subst (λ ss. CameTo plan.network ss ran) c.deref-2.ensures.value c.in_ok-ran.ensures in (
      lines,
      c.in_ok-lines.ensures.whole,
      shown_whole c.args.json text lines plan planned read.version steps old new ran journal came
          (subst (λ ss. IsWritten c.args.json plan.network plan.directory (take ran.done ss) [] old new) c.deref-3.ensures.value c.in_ok-write_steps.ensures) none,
    )
