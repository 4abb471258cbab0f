use Rattle.minima.proofs.Nodes.{halved, halves}
use Rattle.minima.proofs.tree.parent_of.Goals as goal

pub returns-clause-half : goal.returns-clause-half
returns-clause-half c = halves c.args.node

pub returns-clause-below : goal.returns-clause-below
returns-clause-below c = halved c.args.node
