use Rattle.std.proofs.Common.{ℕ, ◌≡◌, ◌<◌, length, get_or, None}
use Rattle.ipv4_prefix.specs.LongestMatch.{longest_match}
use Rattle.array_bitmap.specs.Image.{rows_in}
use Rattle.array_bitmap.proofs.lanes.answer_all.Given as goal

abbrev pub invariant-loop-k : goal.invariant-loop-k
invariant-loop-k g l = record {
  count : length l.answers ≡ length l.addrs;
  answered : (j : ℕ) → j < l.k → get_or l.answers j None ≡ longest_match (get_or l.addrs j 0) (rows_in l.tree);
}
