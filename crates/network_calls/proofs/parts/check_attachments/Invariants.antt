use Rattle.std.proofs.Common.{◌≡◌, drop}
use Rattle.network_calls.specs.Parts.{first_place, attachment_parts_fault}
use Rattle.network_calls.proofs.parts.check_attachments.Given as goal

abbrev pub invariant-loop-place : goal.invariant-loop-place
invariant-loop-place l = first_place attachment_parts_fault l.place (drop l.place l.attachments) ≡ first_place attachment_parts_fault 0 l.attachments
