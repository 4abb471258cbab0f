use Rattle.node_pool.proofs.Blocks.{new_linked}
use Rattle.node_pool.proofs.pool.Pool.new.Goals as goal

pub invariant_of-result-clause-linked : goal.invariant_of-result-clause-linked
invariant_of-result-clause-linked g c = new_linked c.new.result.items
