use Rattle.std.proofs.Common.{◌≡◌, length}
use Rattle.script.proofs.Common.{IsLink, ReadsFirst, texts}
use Rattle.script.proofs.link.read_links.Given as goal

abbrev pub invariant-loop-position : goal.invariant-loop-position
invariant-loop-position l = record {
  reads : ReadsFirst (IsLink l.names) (texts l.lines) l.links.items;
  count : length l.links.items ≡ l.position;
}
