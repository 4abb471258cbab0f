use Rattle.std.proofs.Common.{ℕ, ◌≡◌, ◌<◌, is_some}
use Rattle.network_model.specs.World.{attachment_at}
use Rattle.reachability.specs.Marks.{is_in}
use Rattle.reachability.proofs.links.mark_attached.Given as goal

abbrev pub invariant-loop-place : goal.invariant-loop-place
invariant-loop-place g l = (k : ℕ) → k < l.place → is_in l.marks k ≡ is_some (attachment_at l.world k l.prefix)
