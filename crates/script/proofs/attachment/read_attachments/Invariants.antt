use Rattle.std.proofs.Common.{◌≡◌, length}
use Rattle.script.proofs.Common.{IsAttachment, ReadsFirst, texts}
use Rattle.script.proofs.attachment.read_attachments.Given as goal

abbrev pub invariant-loop-position : goal.invariant-loop-position
invariant-loop-position l = record {
  reads : ReadsFirst (IsAttachment l.names) (texts l.lines) l.attachments.items;
  count : length l.attachments.items ≡ l.position;
}
