use Rattle.std.proofs.Common.{◌≡◌, length}
use Rattle.script.proofs.Common.{ReadsFirst, texts}
use Rattle.timing.specs.Lines.{SaysLink}
use Rattle.timing.proofs.line_reading.read_links.Given as goal

abbrev pub invariant-loop-position : goal.invariant-loop-position
invariant-loop-position l = record {
  reads : ReadsFirst (SaysLink l.names l.links) (texts l.lines) l.given.items;
  count : length l.given.items ≡ l.position;
}
