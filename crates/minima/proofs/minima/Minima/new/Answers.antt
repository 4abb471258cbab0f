use Rattle.minima.proofs.First.{none_moments, none_tree}
use Rattle.minima.proofs.minima.Minima.new.Goals as goal

pub invariant_of-result : goal.invariant_of-result
invariant_of-result g c = none_tree c.args.routers c.in_ok-nodes.nodes.items c.in_ok-nodes.ensures c.requires

pub returns : goal.returns
returns g c = none_moments c.args.routers c.in_ok-nodes.nodes.items c.in_ok-nodes.ensures
