use Rattle.std.proofs.Common.{◌≡◌, ◌≤◌, ◌-◌, length, map, take}
use Rattle.network_model.specs.Publication.{image_answer}
use Rattle.array_bitmap.proofs.image.Image.lookup_all.Given as goal

abbrev pub invariant-loop-done : goal.invariant-loop-done
invariant-loop-done g l = record {
  within : l.done ≤ length l.addrs;
  count : length l.answers ≡ length l.addrs;
  answered : take l.done l.answers ≡ map (image_answer l.self) (take l.done l.addrs);
}

abbrev pub decreases-loop-done : goal.decreases-loop-done
decreases-loop-done g l = length l.addrs - l.done
