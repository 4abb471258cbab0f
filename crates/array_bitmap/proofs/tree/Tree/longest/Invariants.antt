use Rattle.std.proofs.Common.{◌≡◌, ◌+◌, ◌-◌, min}
use Rattle.array_bitmap.specs.{Bits.depth_of, Words.found, Tree.block_at, Tree.word_at, Image.cells_of}
use Rattle.bitmaps.specs.Greatest.{GreatestBelow}
use Rattle.array_bitmap.proofs.tree.Tree.longest.Given as goal

abbrev pub invariant-loop-level : goal.invariant-loop-level
invariant-loop-level g l = record {
  at : l.block ≡ block_at (cells_of l.self) l.path (l.level - (l.self).first);
  best : GreatestBelow (word_at (cells_of l.self) l.path) (min (depth_of l.level + 1) 33) (found l.best);
}
