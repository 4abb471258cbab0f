use Rattle.node_pool.proofs.Blocks.{set_linked}
use Rattle.node_pool.proofs.pool.Pool.set.Goals as goal

pub invariant_of-self-clause-linked : goal.invariant_of-self-clause-linked
invariant_of-self-clause-linked g c = set_linked c.args.self.now.cells.items c.args.self.now.free c.args.place c.args.value c.requires c.args.self.now.linked
