use Rattle.std.proofs.Common.{◌≡◌, ◌-◌}
use Rattle.array_bitmap.specs.{Tree.block_at, Image.cells_of}
use Rattle.array_bitmap.proofs.tree.Tree.block_on.Given as goal

abbrev pub invariant-loop-d : goal.invariant-loop-d
invariant-loop-d g l = block_at (cells_of l.self) l.path (l.d - (l.self).first) ≡ l.block
