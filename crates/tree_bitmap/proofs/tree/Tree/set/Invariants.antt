use Rattle.std.proofs.Common.{◌≡◌, ◌⊎◌, ◌+◌, ◌≤◌, ℕ, Some}
use Rattle.node_pool.specs.Pool.{cell, room}
use Rattle.tree_bitmap.specs.Tree.{blank, rows, node_place, IsTreeLaidOut}
use Rattle.tree_bitmap.proofs.tree.Tree.set.Given as goal

abbrev pub invariant-loop-d : goal.invariant-loop-d
invariant-loop-d g l = record {
  sound : IsTreeLaidOut l.self;
  at : node_place l.self l.path l.d ≡ Some l.index;
  results : room l.self.pool.results ≡ room l.fn.self.pool.results;
  cost : (room l.fn.self.pool.nodes ≤ room l.self.pool.nodes)
      ⊎ ((cell l.self.pool.nodes l.index ≡ Some blank) × (room l.fn.self.pool.nodes ≤ room l.self.pool.nodes + 15 + l.d) × (1 ≤ l.d));
  same : (q : ℕ) → (m : ℕ) → rows l.self q m ≡ rows l.fn.self q m;
}
