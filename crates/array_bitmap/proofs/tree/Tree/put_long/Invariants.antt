use Rattle.std.proofs.Common.{ℕ, ◌≡◌, ◌-◌}
use Rattle.array_bitmap.specs.{Tree.word_at, Image.cells_of, Image.IsSoundTree, Image.IsStand}
use Rattle.array_bitmap.proofs.tree.Tree.put_long.Given as goal

abbrev pub invariant-loop-d : goal.invariant-loop-d
invariant-loop-d g l = record {
  sound : IsSoundTree l.self;
  first : (l.self).first ≡ l.fn.self.first;
  stand : IsStand (cells_of l.self) l.path (l.d - (l.self).first) l.stand;
  same : (q m : ℕ) → word_at (cells_of l.self) q m ≡ word_at (cells_of l.fn.self) q m;
}
