use Rattle.std.proofs.Common.{◌≡◌, Some, slice_get, take}
use Rattle.network_model.specs.World.{Attachments}
use Rattle.world.proofs.queue.notices_at.Given as goal

abbrev pub invariant-loop-place : goal.invariant-loop-place
invariant-loop-place l = (a : Attachments) → slice_get (l.world).attachments l.router ≡ Some a → (l.notices).items ≡ take l.place a.notices
