use Rattle.std.proofs.Common.{◌≡◌, take}
use Rattle.script.proofs.Common.{AreNames, texts}
use Rattle.script.proofs.names.read_names.Given as goal

abbrev pub invariant-loop-position : goal.invariant-loop-position
invariant-loop-position l = record {
  read : l.names ≡ take l.position (texts l.lines);
  valid : AreNames l.names;
}
