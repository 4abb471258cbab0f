use Rattle.std.proofs.Common.{◌≡◌, [], ◌++◌}
use Rattle.network_model.specs.Publication.{with_rows}
use Rattle.image_compiler.proofs.compile.Given as goal

abbrev pub invariant-loop-prefix : goal.invariant-loop-prefix
invariant-loop-prefix g l = record {
  rows : l.yielded ++ l.prefix-iterator ≡ l.table.table.control;
  set : l.image ≡ record { generation = 0; rows = with_rows l.yielded [] };
}
