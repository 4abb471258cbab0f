use Rattle.std.proofs.Common.{◌≡◌, take, length, vec_len, vec_capacity}
use Rattle.simulation.proofs.images.copy_images.Given as goal

abbrev pub invariant-loop-image : goal.invariant-loop-image
invariant-loop-image g l = record {
  so_far : (l.copies).items ≡ take l.image-index l.images;
  count : vec_len l.copies ≡ l.image-index;
  room : vec_capacity l.copies ≡ length l.images;
}
