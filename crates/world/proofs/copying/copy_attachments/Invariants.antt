use Rattle.std.proofs.Common.{◌≡◌, take, length, vec_len, vec_capacity}
use Rattle.world.proofs.copying.copy_attachments.Given as goal

abbrev pub invariant-loop-own : goal.invariant-loop-own
invariant-loop-own g l = record {
  so_far : (l.copies).items ≡ take l.own-index l.attachments;
  count : vec_len l.copies ≡ l.own-index;
  room : vec_capacity l.copies ≡ length l.attachments;
}
