use Rattle.std.proofs.Common.{◌+◌, length, ap, ◌∙◌, inr}
use Rattle.script.proofs.{Common.length_push, ReadLines.reads_none, ReadLines.reads_line}
use Rattle.timing.specs.Lines.{SaysLink}
use Rattle.timing.proofs.Reading.{all_read}
use Rattle.timing.proofs.line_reading.read_links.Goals as goal

pub loop-position-init : goal.loop-position-init
loop-position-init c = record { reads = reads_none _ _ _ c.requires; count = ap length c.requires }

pub loop-position-preserved : goal.loop-position-preserved
loop-position-preserved c = record {
  reads = reads_line (SaysLink c.args.names.now c.args.links.now) c.args.lines.now c.loop-position.given.items _ c.loop-position.position c.index-lines-position.result _ c.in-Ok.delays
      c.loop-position.invariant.reads c.loop-position.invariant.count c.loop-position-test.true c.index-lines-position.is c.as_str.ensures.value c.in-Ok.ensures c.in_ok-push-in-Ok.ensures.items;
  count = ap length c.in_ok-push-in-Ok.ensures.items ∙ length_push c.loop-position.given.items c.in-Ok.delays ∙ ap (λ n. n + 1) c.loop-position.invariant.count;
}

pub returns-clause-says : goal.returns-clause-says
returns-clause-says c = all_read (SaysLink c.args.names.now c.args.links.now) c.args.lines.now c.loop-position.given.items c.loop-position.position c.loop-position.invariant.reads c.loop-position.invariant.count c.loop-position-test.false

pub returns-in-Err-clause-fault : goal.returns-in-Err-clause-fault
returns-in-Err-clause-fault c = inr (c.in-Err.fault, c.loop-position.position, c.at_line.ensures, c.loop-position-test.true)
