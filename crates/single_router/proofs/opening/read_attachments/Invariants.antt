use Rattle.std.proofs.Common.{◌≡◌, None, map, take, drop}
use Rattle.single_router.specs.Openings.{attachments_fault, attachment_row}
use Rattle.single_router.proofs.opening.read_attachments.Given as goal

abbrev pub invariant-loop-attachment : goal.invariant-loop-attachment
invariant-loop-attachment l = record {
  rest : attachments_fault (drop l.attachment-index l.attachments) ≡ None;
  items : l.rows.items ≡ map attachment_row (take l.attachment-index l.attachments);
}
