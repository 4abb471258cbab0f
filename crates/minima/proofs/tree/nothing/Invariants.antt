use Rattle.std.proofs.Common.{◌≡◌, None, replicate}
use Rattle.minima.proofs.tree.nothing.Given as goal

abbrev pub invariant-loop-made : goal.invariant-loop-made
invariant-loop-made g l = l.nodes.items ≡ replicate l._made None
