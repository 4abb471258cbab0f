use Rattle.std.proofs.Common.{rules}
use Rattle.worker_pool.proofs.pool.WorkerPool.end.Goals as goal

pub returns : goal.returns
returns g c = search rules
