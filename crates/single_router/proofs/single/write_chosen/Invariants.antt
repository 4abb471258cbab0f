use Rattle.std.proofs.Common.{◌≡◌, ◌++◌, length, map, take, drop}
use Rattle.c_interface.specs.Rows.{entry_row}
use Rattle.single_router.proofs.single.write_chosen.Given as goal

abbrev pub invariant-loop-prefix : goal.invariant-loop-prefix
invariant-loop-prefix l = record {
  all : l.yielded ++ l.prefix-iterator ≡ l.fn.chosen;
  place : l.place ≡ length l.yielded;
  count : length l.rows ≡ length l.fn.rows;
  first : take l.place l.rows ≡ map (λ r. entry_row r.0 r.1) l.yielded;
  rest : drop (length l.fn.chosen) l.rows ≡ drop (length l.fn.chosen) l.fn.rows;
}
