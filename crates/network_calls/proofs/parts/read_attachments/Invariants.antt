use Rattle.std.proofs.Common.{◌≡◌, None, map, take, drop}
use Rattle.single_router.specs.Openings.{first_fault_in}
use Rattle.network_calls.specs.Parts.{attachment_parts_fault, attachment_of_parts}
use Rattle.network_calls.proofs.parts.read_attachments.Given as goal

abbrev pub invariant-loop-attachment : goal.invariant-loop-attachment
invariant-loop-attachment l = record {
  rest : first_fault_in attachment_parts_fault (drop l.attachment-index l.attachments) ≡ None;
  items : l.read.items ≡ map attachment_of_parts (take l.attachment-index l.attachments);
}
