use Rattle.std.proofs.Common.{slice_get}
use Rattle.network_model.specs.World.{side}
use Rattle.network_calls.specs.Shown.{item_shown}
use Rattle.network_calls.proofs.Items.{AreFirstOf}
use Rattle.network_calls.proofs.link.write_items.Given as goal

abbrev pub invariant-loop-at : goal.invariant-loop-at
invariant-loop-at l = AreFirstOf (λ k. (side (l.place).end k).inbox) item_shown l.fn.items (slice_get (l.world).links (l.place).link) l.items l.at
