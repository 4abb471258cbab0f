use Rattle.std.proofs.Common.{rules}
use Rattle.worker_pool.proofs.pool.WorkerPool.inject.Goals as goal

pub returns-then-is_empty-clause-jobs : goal.returns-then-is_empty-clause-jobs
returns-then-is_empty-clause-jobs g c = search rules

pub returns-then-is_err-clause-jobs : goal.returns-then-is_err-clause-jobs
returns-then-is_err-clause-jobs g c = search rules

pub returns-then-is_err-2-clause-jobs : goal.returns-then-is_err-2-clause-jobs
returns-then-is_err-2-clause-jobs g c = search rules

pub returns-clause-jobs : goal.returns-clause-jobs
returns-clause-jobs g c = search rules
