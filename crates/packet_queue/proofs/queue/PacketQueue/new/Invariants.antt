use Rattle.std.proofs.Common.{◌≡◌, ◌≤◌, ◌-◌, [], All, vec_len}
use Rattle.std.specs.Vec.{vec_capacity}
use Rattle.crossbeam_channel.specs.{Claims.view, Claims.IsSeatAt, Ends.sends_on, Ends.receives_on}
use Rattle.packet_queue.specs.{Hands.hand, Ends.queue_name, Ends.IsFresh}
use Rattle.packet_queue.proofs.queue.PacketQueue.new.Given as goal

-- each taker has a part, and the rest is the injector's
abbrev pub invariant-loop-i : goal.invariant-loop-i
invariant-loop-i g l =
    IsSeatAt (sends_on l.sender) l.pass
    × (view l.pass ≡ hand (256 - l._i) [] [])
    × (receives_on l.receiver ≡ sends_on l.sender)
    × (vec_len l.takers ≡ l._i)
    × (l._i ≤ l.workers)
    × (l.workers ≤ vec_capacity l.takers)
    × All (IsFresh (queue_name (sends_on l.sender))) l.takers.items
