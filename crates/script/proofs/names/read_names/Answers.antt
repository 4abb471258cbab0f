use Rattle.script.proofs.{NameNumbers.AreNames-none, NameNumbers.AreNames-push, ReadLines.takes_line}
use Rattle.script.proofs.names.read_names.Goals as goal

pub loop-position-init : goal.loop-position-init
loop-position-init c = record { read = c.requires; valid = rw c.requires AreNames-none }

pub loop-position-preserved : goal.loop-position-preserved
loop-position-preserved c =
    let added = c.in_default.ensures.ok in
    record {
      read = takes_line c.args.lines.now c.loop-position.position c.index-lines-position.result c.as_str.result.now c.loop-position.names c.add.new.self
          c.loop-position.invariant.read c.loop-position-test.true c.index-lines-position.is c.as_str.ensures.value added.0;
      valid = rw added.0 (AreNames-push c.loop-position.names c.as_str.result.now c.loop-position.invariant.valid added.1 added.2);
    }
