use Rattle.std.proofs.Common.{◌≡◌, ◌+◌, ◌++◌, drop}
use Rattle.row_words.specs.Rows.{with_slots}
use Rattle.row_words.proofs.cells.number_rows.Given as goal

abbrev pub invariant-loop-prefix : goal.invariant-loop-prefix
invariant-loop-prefix g l = record {
  slot : l.slot ≡ l.from + l.prefix-index;
  slots : l.slots.items ++ with_slots l.slot (drop l.prefix-index l.rows) ≡ with_slots l.from l.rows;
}
