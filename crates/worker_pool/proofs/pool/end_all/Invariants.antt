use Rattle.std.proofs.Common.{◌≡◌, ◌+◌, ◌≤◌, vec_len, vec_capacity}
use Rattle.worker_pool.proofs.pool.end_all.Given as goal

-- each worker that was waited for has given its port back, and there is room for those of the others
abbrev pub invariant-loop-handle : goal.invariant-loop-handle
invariant-loop-handle g l =
    (vec_len l.ports + vec_len l.running ≡ vec_len l.fn.ports + vec_len l.fn.running)
    × (vec_len l.ports + vec_len l.running ≤ vec_capacity l.ports)

abbrev pub decreases-loop-handle : goal.decreases-loop-handle
decreases-loop-handle g l = vec_len l.running
