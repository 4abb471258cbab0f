use Rattle.std.proofs.Common.{rules}
use Rattle.worker_pool.proofs.pool.WorkerPool.watched.Goals as goal

pub returns-in_default-clause-workers : goal.returns-in_default-clause-workers
returns-in_default-clause-workers g c = search rules

pub returns-in-Err-clause-workers : goal.returns-in-Err-clause-workers
returns-in-Err-clause-workers g c = search rules

pub returns-clause-workers : goal.returns-clause-workers
returns-clause-workers g c = search rules
