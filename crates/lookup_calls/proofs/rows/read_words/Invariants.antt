use Rattle.std.proofs.Common.{◌≡◌, ◌++◌, None, drop}
use Rattle.lookup_calls.specs.{Rows.first_row_fault, Tables.worded_rows}
use Rattle.lookup_calls.proofs.rows.read_words.Given as goal

abbrev pub invariant-loop-k : goal.invariant-loop-k
invariant-loop-k l = record {
  rest : first_row_fault (drop l.k l.rows) ≡ None;
  items : l.read.items ++ worded_rows (drop l.k l.rows) (drop l.k l.words) ≡ worded_rows l.rows l.words;
}
