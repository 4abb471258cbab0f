use Rattle.std.proofs.Common.{◌≡◌, ◌+◌, ◌≤◌, vec_len, vec_capacity, IfErr}
use Rattle.worker_pool.specs.Faults.{IsWorkFault}
use Rattle.worker_pool.proofs.pool.WorkerPool.drain.Given as goal

-- each worker that was waited for has given its port back, and there is room for those of the others
abbrev pub invariant-loop-handle : goal.invariant-loop-handle
invariant-loop-handle g l =
    (vec_len l.ports + vec_len l.running ≡ vec_len l.initial.running)
    × (vec_len l.initial.running ≤ vec_capacity l.ports)
    × IfErr l.replies IsWorkFault

abbrev pub decreases-loop-handle : goal.decreases-loop-handle
decreases-loop-handle g l = vec_len l.running
