use Rattle.std.proofs.Common.{ℕ, ◌≡◌, ◌<◌, length, get_or, None, option_map}
use Rattle.row_words.specs.Rows.{mark_in}
use Rattle.row_words.proofs.parts.mark_rows.Given as goal

abbrev pub invariant-loop-k : goal.invariant-loop-k
invariant-loop-k l = record {
  count : length l.answers ≡ length l.found;
  marked : (j : ℕ) → j < l.k → get_or l.answers j None ≡ option_map (λ r. (r.0, mark_in l.cells r.1)) (get_or l.found j None);
}
