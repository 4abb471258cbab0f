use Rattle.std.proofs.Common.{◌≡◌, length, vec_len, vec_capacity}
use Rattle.array_bitmap.specs.{Batch.IsNoted, Image.rows_in, Image.IsSoundTree}
use Rattle.array_bitmap.proofs.batch.set_and_note.Given as goal

abbrev pub invariant-loop-prefix : goal.invariant-loop-prefix
invariant-loop-prefix g l = record {
  sound : IsSoundTree l.tree;
  noted : IsNoted (rows_in l.fn.tree) l.rows l.notes.items (rows_in l.tree);
  count : length l.notes.items ≡ l.prefix-index;
  len : vec_len l.notes ≡ l.prefix-index;
  capacity : vec_capacity l.notes ≡ vec_capacity l.fn.notes;
}
