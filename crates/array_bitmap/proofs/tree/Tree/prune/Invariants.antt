use Rattle.std.proofs.Common.{ℕ, ◌≡◌, ◌+◌, ◌-◌, ◌<◌, ◌≤◌}
use Rattle.array_bitmap.specs.{Tree.block_at, Tree.word_at, Image.cells_of, Image.IsSoundTree}
use Rattle.array_bitmap.proofs.tree.Tree.prune.Given as goal

abbrev pub invariant-loop-up : goal.invariant-loop-up
invariant-loop-up g l = record {
  sound : IsSoundTree l.self;
  first : (l.self).first ≡ l.fn.self.first;
  same : (q m : ℕ) → word_at (cells_of l.self) q m ≡ word_at (cells_of l.fn.self) q m;
  gone : (d : ℕ) → (l.self).first ≤ d → l.level < d + l.up → d ≤ l.level → block_at (cells_of l.self) l.path (d - (l.self).first) ≡ 0;
}
