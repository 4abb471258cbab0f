use Rattle.std.proofs.Common.{slice_get}
use Rattle.network_model.specs.World.{Attachments}
use Rattle.network_calls.specs.Shown.{notice_shown}
use Rattle.network_calls.proofs.Items.{AreFirstOf}
use Rattle.network_calls.proofs.gate.write_notices.Given as goal

abbrev pub invariant-loop-at : goal.invariant-loop-at
invariant-loop-at l = AreFirstOf (λ (a : Attachments). a.notices) notice_shown l.fn.notices (slice_get (l.world).attachments l.router) l.notices l.at
