use Rattle.std.proofs.Common.{rules}
use Rattle.node_pool.proofs.pools.NodePool.copy.Goals as goal

pub returns-in_err-copy-clause-results : goal.returns-in_err-copy-clause-results
returns-in_err-copy-clause-results g c = search rules

pub returns-in_err-copy-2-clause-results : goal.returns-in_err-copy-2-clause-results
returns-in_err-copy-2-clause-results g c = search rules

pub returns-clause-results : goal.returns-clause-results
returns-clause-results g c = search rules
