use Rattle.std.proofs.Common.{◌≡◌, length}
use Rattle.script.proofs.Common.{ReadsFirst, texts}
use Rattle.timing.specs.Lines.{SaysChange}
use Rattle.timing.proofs.line_reading.read_changes.Given as goal

abbrev pub invariant-loop-position : goal.invariant-loop-position
invariant-loop-position l = record {
  reads : ReadsFirst (SaysChange l.names l.links l.attachments) (texts l.lines) l.changes.items;
  count : length l.changes.items ≡ l.position;
}
