use Rattle.std.proofs.Common.{◌≡◌, drop}
use Rattle.lookup_calls.specs.Rows.{first_row_fault}
use Rattle.lookup_calls.proofs.rows.check_rows.Given as goal

abbrev pub invariant-loop-row : goal.invariant-loop-row
invariant-loop-row l = first_row_fault (drop l.row-index l.rows) ≡ first_row_fault l.rows
