use Rattle.std.proofs.Common.{◌≡◌, length, map, take}
use Rattle.network_model.specs.Publication.{image_answer}
use Rattle.tree_bitmap.proofs.image.Image.lookup_all.Given as goal

abbrev pub invariant-loop-i : goal.invariant-loop-i
invariant-loop-i g l = record {
  count : length l.answers ≡ length l.addrs;
  answered : take l.i l.answers ≡ map (image_answer l.self) (take l.i l.addrs);
}
