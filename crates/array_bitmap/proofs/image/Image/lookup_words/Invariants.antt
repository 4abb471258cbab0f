use Rattle.std.proofs.Common.{◌≡◌, ◌≤◌, ◌-◌, length, map, take}
use Rattle.network_model.specs.Publication.{image_answer}
use Rattle.array_bitmap.specs.Words.{answer_word}
use Rattle.array_bitmap.proofs.image.Image.lookup_words.Given as goal

abbrev pub invariant-loop-done : goal.invariant-loop-done
invariant-loop-done g l = record {
  within : l.done ≤ length l.addrs;
  count : length l.words ≡ length l.addrs;
  answered : take l.done l.words ≡ map (λ addr. answer_word (image_answer l.self addr)) (take l.done l.addrs);
}

abbrev pub decreases-loop-done : goal.decreases-loop-done
decreases-loop-done g l = length l.addrs - l.done
