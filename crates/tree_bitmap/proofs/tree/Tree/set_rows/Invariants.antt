use Rattle.std.proofs.Common.{◌≡◌, ◌+◌, ◌*◌, ◌≤◌, take}
use Rattle.node_pool.specs.Pool.{room}
use Rattle.network_model.specs.Publication.{with_rows}
use Rattle.tree_bitmap.specs.Tree.{IsTreeLaidOut, tree_rows}
use Rattle.tree_bitmap.proofs.tree.Tree.set_rows.Given as goal

abbrev pub invariant-loop-prefix : goal.invariant-loop-prefix
invariant-loop-prefix g l = record {
  sound : IsTreeLaidOut l.self;
  nodes : room l.fn.self.pool.nodes ≤ room l.self.pool.nodes + 23 * l.prefix-index;
  results : room l.fn.self.pool.results ≤ room l.self.pool.results + 15 * l.prefix-index;
  rows : tree_rows l.self ≡ with_rows (take l.prefix-index l.rows) (tree_rows l.fn.self);
}
