use Rattle.std.proofs.Common.{◌≡◌}
use Rattle.fabric_tests.proofs.worker_pools.ask.Given as goal

abbrev pub invariant-loop-place : goal.invariant-loop-place
invariant-loop-place g l = l.pool.workers ≡ l.initial.pool.workers
