use Rattle.std.proofs.Common.{◌≡◌, ◌<◌, ◌≤◌, ◌+◌, ◌*◌, ◌^◌, ℕ, All, sum_by, vec_len}
use Rattle.crossbeam_channel.specs.{Claims.view, Claims.IsSeatAt, Ends.sends_on}
use Rattle.packet_queue.specs.{declared.message.Taken.Taken, Hands.one_job}
use Rattle.packet_queue.specs.Ends.{queue_name, takes_from, put_by, taken_by}
use Rattle.packet_queue.proofs.reckoning.reckon.Given as goal

-- the pass has the parts, and has taken the messages, of the takers that are gone
abbrev pub invariant-loop-taker : goal.invariant-loop-taker
invariant-loop-taker g l =
    IsSeatAt (sends_on l.sender) l.pass
    × All (λ t. takes_from t ≡ queue_name (sends_on l.sender)) l.takers.items
    × ((view l.pass).parts + vec_len l.takers ≡ 256)
    × (0 < (view l.pass).parts)
    × ((view l.pass).put ≡ put_by l.fn.injector)
    × ((h : Taken g.row.B.Denot → ℕ) → sum_by h (view l.pass).taken + sum_by (λ t. sum_by h (taken_by t)) l.takers.items ≡ sum_by (λ t. sum_by h (taken_by t)) l.fn.takers.items)
    × (l.taken ≡ sum_by one_job (view l.pass).taken)
    × (l.taken + vec_len l.takers * 2 ^ 64 ≤ 256 * 2 ^ 64)

abbrev pub decreases-loop-taker : goal.decreases-loop-taker
decreases-loop-taker g l = vec_len l.takers
