use Rattle.std.proofs.Common.{◌≡◌, ◌+◌, ◌-◌, ◌^◌, ◌≤◌, length}
use Rattle.ipv4_prefix.specs.Prefix.{IsPrefix}
use Rattle.array_bitmap.specs.{Cursor.rows_from, Image.rows_in}
use Rattle.array_bitmap.proofs.PrefixNumbers.{number}
use Rattle.array_bitmap.proofs.tree.Tree.row_count.Given as goal

abbrev pub invariant-loop-row : goal.invariant-loop-row
invariant-loop-row g l = record {
  valid : IsPrefix l.cursor;
  counted : l.count + length (rows_from l.cursor (rows_in l.self)) ≡ length (rows_in l.self);
  few : l.count ≤ number l.cursor;
}

abbrev pub decreases-loop-row : goal.decreases-loop-row
decreases-loop-row g l = 2 ^ 38 - number l.cursor
