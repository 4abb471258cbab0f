use Rattle.std.proofs.Common.{◌≡◌, None, [], drop}
use Rattle.row_words.specs.Rows.{with_marked}
use Rattle.lookup_calls.specs.{Rows.first_row_fault, Tables.plain_rows}
use Rattle.lookup_calls.proofs.images.image_of_rows.Given as goal

abbrev pub invariant-loop-row : goal.invariant-loop-row
invariant-loop-row l = record {
  rest : first_row_fault (drop l.row-index l.rows) ≡ None;
  generation : (l.image).generation ≡ 0;
  rows : with_marked (plain_rows (drop l.row-index l.rows)) (l.image).rows ≡ with_marked (plain_rows l.rows) [];
}
