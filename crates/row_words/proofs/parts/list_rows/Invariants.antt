use Rattle.std.proofs.Common.{◌≡◌, ◌++◌, length}
use Rattle.array_bitmap.specs.Cursor.{rows_onward}
use Rattle.row_words.specs.Rows.{marked}
use Rattle.row_words.proofs.parts.list_rows.Given as goal

-- the rows that are listed, and those that are left
abbrev pub invariant-loop-cursor : goal.invariant-loop-cursor
invariant-loop-cursor g l = l.rows.items ++ marked l.cells (rows_onward l.cursor (l.image).rows) ≡ marked l.cells (l.image).rows

abbrev pub decreases-loop-cursor : goal.decreases-loop-cursor
decreases-loop-cursor g l = length (rows_onward l.cursor (l.image).rows)
