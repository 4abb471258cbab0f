use Rattle.std.proofs.Common.{ℕ, ◌≡◌, ◌<◌, length, get_or, None, option_map}
use Rattle.c_interface.specs.Rows.{answer_row}
use Rattle.lookup_calls.proofs.rows.answer_marked_burst.Given as goal

abbrev pub invariant-loop-k : goal.invariant-loop-k
invariant-loop-k l = record {
  count : length l.answers ≡ length l.addrs;
  answered : (j : ℕ) → j < l.k → get_or l.answers j (answer_row None) ≡ answer_row (option_map (λ r. (r.0, r.1.entry)) (get_or l.found j None));
}
