use Rattle.std.proofs.Common.{◌≡◌, length}
use Rattle.array_bitmap.specs.Cursor.{rows_onward}
use Rattle.row_words.specs.Rows.{with_marked}
use Rattle.lookup_calls.specs.Tables.{wordless_rows}
use Rattle.lookup_calls.proofs.kept.make_words.Given as goal

-- the rows that are set, and those that are left
abbrev pub invariant-loop-cursor : goal.invariant-loop-cursor
invariant-loop-cursor l = record {
  generation : (l.words).generation ≡ (l.image).generation;
  rows : with_marked (wordless_rows (rows_onward l.cursor (l.image).rows)) (l.words).rows ≡ wordless_rows (l.image).rows;
}

abbrev pub decreases-loop-cursor : goal.decreases-loop-cursor
decreases-loop-cursor l = length (rows_onward l.cursor (l.image).rows)
