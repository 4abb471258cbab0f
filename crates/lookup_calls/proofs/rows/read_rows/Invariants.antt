use Rattle.std.proofs.Common.{◌≡◌, None, map, take, drop}
use Rattle.c_interface.specs.Rows.{row_entry}
use Rattle.lookup_calls.specs.Rows.{first_row_fault}
use Rattle.lookup_calls.proofs.rows.read_rows.Given as goal

abbrev pub invariant-loop-row : goal.invariant-loop-row
invariant-loop-row l = record {
  rest : first_row_fault (drop l.row-index l.rows) ≡ None;
  items : l.read.items ≡ map row_entry (take l.row-index l.rows);
}
