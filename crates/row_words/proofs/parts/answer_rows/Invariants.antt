use Rattle.std.proofs.Common.{◌≡◌, ◌≤◌, ◌-◌, length, map, take}
use Rattle.ipv4_prefix.specs.LongestMatch.{longest_match}
use Rattle.row_words.specs.Rows.{marked}
use Rattle.row_words.proofs.parts.answer_rows.Given as goal

abbrev pub invariant-loop-done : goal.invariant-loop-done
invariant-loop-done g l = record {
  within : l.done ≤ length l.addrs;
  count : length l.answers ≡ length l.addrs;
  answered : take l.done l.answers ≡ map (λ addr. longest_match addr (marked l.cells (l.image).rows)) (take l.done l.addrs);
}

abbrev pub decreases-loop-done : goal.decreases-loop-done
decreases-loop-done g l = length l.addrs - l.done
