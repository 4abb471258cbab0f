use Rattle.std.proofs.Common.{◌≡◌, ◌-◌, ◌^◌}
use Rattle.ipv4_prefix.specs.Prefix.{IsPrefix}
use Rattle.network_model.specs.Publication.{with_rows}
use Rattle.array_bitmap.specs.{Cursor.rows_from, Image.IsSoundTree, Image.rows_in}
use Rattle.array_bitmap.proofs.PrefixNumbers.{number}
use Rattle.array_bitmap.proofs.tree.Tree.rebuilt.Given as goal

-- the rows that are left, set behind those that are set, are all
abbrev pub invariant-loop-row : goal.invariant-loop-row
invariant-loop-row g l = record {
  sound : IsSoundTree l.tree;
  valid : IsPrefix l.cursor;
  rows : with_rows (rows_from l.cursor (rows_in l.self)) (rows_in l.tree) ≡ rows_in l.self;
}

abbrev pub decreases-loop-row : goal.decreases-loop-row
decreases-loop-row g l = 2 ^ 38 - number l.cursor
