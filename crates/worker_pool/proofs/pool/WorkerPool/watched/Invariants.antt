use Rattle.std.proofs.Common.{◌≡◌, ◌+◌, ◌≤◌, vec_len, vec_capacity}
use Rattle.worker_pool.proofs.pool.WorkerPool.watched.Given as goal

-- each worker that has begun took a port and a taker
abbrev pub invariant-loop-port : goal.invariant-loop-port
invariant-loop-port g l =
    (vec_len l.running + vec_len l.ports ≡ vec_len l.fn.ports)
    × (vec_len l.takers ≡ vec_len l.ports)
    × (vec_len l.fn.ports ≤ vec_capacity l.running)
    × (vec_len l.fn.ports ≤ vec_capacity l.ports)

abbrev pub decreases-loop-port : goal.decreases-loop-port
decreases-loop-port g l = vec_len l.ports
