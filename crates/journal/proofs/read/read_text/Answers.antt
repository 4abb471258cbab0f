use Rattle.std.proofs.Common.{◌≡◌, ◌≢◌, sym, ◌∙◌, ◌+◌, inr, length, true≢false}
use Rattle.script.proofs.Common.{bytes_eq-Decides, words_of, lines_of}
use Rattle.journal.specs.Journal.{ending}
use Rattle.journal.proofs.Reading.{steps_more, says_no_step, stops_missing, stops_at_line}
use Rattle.journal.proofs.read.read_text.Goals.{in-Some-next_line+else-eq+in_default-parse_step, in_default-next_line}
use Rattle.journal.proofs.read.read_text.Goals as goal

pub loop-line-preserved : goal.loop-line-preserved
loop-line-preserved c = (
  search,
  steps_more c.args.names.now c.args.links.now c.args.attachments.now c.args.text.now c.in-Some.version c.loop-line.steps.items c.push.new.self.items (lines_of c.loop-line.rest.now) (lines_of c.in-Some-next_line.after.now)
      c.in-Some-next_line.line.now c.in-Ok.step c.loop-line.invariant.1 c.in-Some-next_line.ensures.some c.in-Ok.ensures.ok c.in_ok-push.ensures.items,
)

pub returns-clause-err : goal.returns-clause-err
returns-clause-err c =
    let number : c.len.result + 2 ≡ length c.loop-line.steps.items + 2 = search in
    elim c.match-next_line.branch [
      | in-Some-next_line+else-eq+in_default-parse_step w ↦
          let line = w.in-Some-next_line.line.now in
          let apart : line ≢ ending = λ is. true≢false (sym ((bytes_eq-Decides line ending).1 is) ∙ sym w.eq.ensures ∙ w.if-eq.false) in
          inr (
            c.requires,
            stops_at_line c.args.names.now c.args.links.now c.args.attachments.now c.args.text.now c.in-Some.version c.loop-line.steps.items (lines_of c.loop-line.rest.now) (lines_of w.in-Some-next_line.after.now) line (c.len.result + 2)
                c.loop-line.invariant.1 w.in-Some-next_line.ensures.some apart
                (says_no_step c.args.names.now c.args.links.now c.args.attachments.now (words_of line) w.in_default-parse_step.field-0 w.in_default-parse_step.ensures.err) number,
          )
      | in_default-next_line w ↦
          inr (c.requires, stops_missing c.args.names.now c.args.links.now c.args.attachments.now c.args.text.now c.in-Some.version c.loop-line.steps.items (lines_of c.loop-line.rest.now) (c.len.result + 2) c.loop-line.invariant.1 w.in_default-next_line.ensures.none number)
    ]
