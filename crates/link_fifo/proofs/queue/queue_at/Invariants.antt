use Rattle.std.proofs.Common.{◌≡◌, Some, slice_get, take}
use Rattle.network_model.specs.World.{Link, side}
use Rattle.link_fifo.proofs.queue.queue_at.Given as goal

abbrev pub invariant-loop-place : goal.invariant-loop-place
invariant-loop-place l = (k : Link) → slice_get (l.links).links l.link ≡ Some k → (l.items).items ≡ take l.place (side l.to k).inbox
