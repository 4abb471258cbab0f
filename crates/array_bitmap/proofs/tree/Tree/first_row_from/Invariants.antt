use Rattle.std.proofs.Common.{◌≡◌, ◌-◌, ◌^◌, true, false, None}
use Rattle.ipv4_prefix.specs.Prefix.{Prefix, IsPrefix}
use Rattle.array_bitmap.specs.{Cursor.is_before, Tree.entry_in, Image.cells_of}
use Rattle.array_bitmap.proofs.PrefixNumbers.{number}
use Rattle.array_bitmap.proofs.tree.Tree.first_row_from.Given as goal

abbrev pub invariant-cursor : goal.invariant-cursor
invariant-cursor g l = record {
  from : is_before l.cursor l.fn.at ≡ false;
  none : (r : Prefix) → IsPrefix r → is_before r l.fn.at ≡ false → is_before r l.cursor ≡ true → entry_in (cells_of l.self) r ≡ None;
}

abbrev pub decreases-cursor : goal.decreases-cursor
decreases-cursor g l = 2 ^ 38 - number l.cursor
