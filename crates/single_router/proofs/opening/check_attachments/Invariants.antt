use Rattle.std.proofs.Common.{◌≡◌, drop}
use Rattle.single_router.specs.Openings.{attachments_fault}
use Rattle.single_router.proofs.opening.check_attachments.Given as goal

abbrev pub invariant-loop-attachment : goal.invariant-loop-attachment
invariant-loop-attachment l = attachments_fault (drop l.attachment-index l.attachments) ≡ attachments_fault l.attachments
