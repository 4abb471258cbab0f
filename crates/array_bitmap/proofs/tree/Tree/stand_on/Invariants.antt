use Rattle.std.proofs.Common.{◌≡◌, ◌-◌}
use Rattle.array_bitmap.specs.{Tree.block_at, Tree.named, Image.cells_of}
use Rattle.array_bitmap.proofs.tree.Tree.stand_on.Given as goal

abbrev pub invariant-loop-d : goal.invariant-loop-d
invariant-loop-d g l = record {
  at : block_at (cells_of l.self) l.path (l.d - (l.self).first) ≡ (l.stand).block;
  name : named (cells_of l.self) (l.stand).holder (l.stand).index ≡ (l.stand).block;
}
