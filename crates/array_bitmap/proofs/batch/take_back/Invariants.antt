use Rattle.std.proofs.Common.{List, length}
use Rattle.ipv4_prefix.specs.Prefix.{Prefix}
use Rattle.network_model.specs.declared.route.Entry.{Entry}
use Rattle.array_bitmap.specs.{Batch.IsNoted, Image.rows_in, Image.IsSoundTree}
use Rattle.array_bitmap.proofs.batch.take_back.Given as goal

abbrev pub invariant-loop-before : goal.invariant-loop-before
invariant-loop-before g l = record {
  sound : IsSoundTree l.tree;
  some : (table : List (Prefix × Entry)) × IsNoted table l.rows l.notes.items (rows_in l.tree);
  noted : (table : List (Prefix × Entry)) → IsNoted table l.rows l.fn.notes.items (rows_in l.fn.tree) → IsNoted table l.rows l.notes.items (rows_in l.tree);
}

abbrev pub decreases-loop-before : goal.decreases-loop-before
decreases-loop-before g l = length l.notes.items
