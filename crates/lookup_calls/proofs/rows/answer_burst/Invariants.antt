use Rattle.std.proofs.Common.{ℕ, ◌≡◌, ◌<◌, length, get_or, None}
use Rattle.network_model.specs.Publication.{image_answer}
use Rattle.c_interface.specs.Rows.{answer_row}
use Rattle.lookup_calls.proofs.rows.answer_burst.Given as goal

abbrev pub invariant-loop-k : goal.invariant-loop-k
invariant-loop-k l = record {
  count : length l.answers ≡ length l.addrs;
  answered : (j : ℕ) → j < l.k → get_or l.answers j (answer_row None) ≡ answer_row (image_answer l.image (get_or l.addrs j 0));
}
