use Rattle.std.proofs.Common.{rules}
use Rattle.node_pool.proofs.pools.NodePool.take_results.Goals as goal

pub returns-clause-results : goal.returns-clause-results
returns-clause-results g c = search rules
