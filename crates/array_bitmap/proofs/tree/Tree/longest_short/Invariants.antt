use Rattle.array_bitmap.specs.{Words.found, Tree.word_at, Image.cells_of}
use Rattle.bitmaps.specs.Greatest.{GreatestBelow}
use Rattle.array_bitmap.proofs.tree.Tree.longest_short.Given as goal

abbrev pub invariant-loop-above : goal.invariant-loop-above
invariant-loop-above g l = GreatestBelow (word_at (cells_of l.self) l.path) l.above (found l.best)
