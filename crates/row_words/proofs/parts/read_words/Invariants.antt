use Rattle.std.proofs.Common.{ℕ, ◌≡◌, ◌<◌, ◌≤◌, length, get_or}
use Rattle.row_words.specs.Rows.{slot_word}
use Rattle.row_words.proofs.parts.read_words.Given as goal

abbrev pub invariant-loop-k : goal.invariant-loop-k
invariant-loop-k l = record {
  count : length l.words ≡ length l.fn.words;
  read : (j : ℕ) → j < l.k → get_or l.words j 0 ≡ slot_word l.cells (get_or l.fn.words j 0);
  rest : (j : ℕ) → l.k ≤ j → get_or l.words j 0 ≡ get_or l.fn.words j 0;
}
