use Rattle.std.proofs.Common.{◌≡◌, ◌+◌, ◌<◌, drop, length, set}
use Rattle.minima.specs.Trees.{HasLeastBut}
use Rattle.minima.proofs.tree.write.Given as goal

-- only the node above this one may be wrong
abbrev pub invariant-loop-node : goal.invariant-loop-node
invariant-loop-node g l = record {
  size : length l.nodes.items ≡ l.fn.count + l.fn.count;
  above : HasLeastBut l.fn.count l.nodes.items l.node;
  within : l.node < l.fn.count + l.fn.count;
  leaves : drop l.fn.count l.nodes.items ≡ drop l.fn.count (set l.fn.nodes.items (l.fn.count + l.fn.router) l.fn.due);
}

abbrev pub decreases-loop-node : goal.decreases-loop-node
decreases-loop-node g l = l.node
