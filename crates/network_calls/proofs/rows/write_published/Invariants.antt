use Rattle.std.proofs.Common.{◌≡◌, ◌≤◌, ◌++◌, length, map, take, drop}
use Rattle.c_interface.specs.Rows.{entry_row}
use Rattle.network_calls.proofs.rows.write_published.Given as goal

abbrev pub invariant-loop-row : goal.invariant-loop-row
invariant-loop-row l = record {
  all : l.yielded ++ l.row-iterator ≡ l.fn.published;
  place : l.place ≡ length l.yielded;
  fits : l.place ≤ length l.rows;
  count : length l.rows ≡ length l.fn.rows;
  first : take l.place l.rows ≡ map (λ r. entry_row r.0 r.1) l.yielded;
  rest : drop l.place l.rows ≡ drop l.place l.fn.rows;
}
