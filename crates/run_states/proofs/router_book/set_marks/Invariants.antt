use Rattle.std.proofs.Common.{◌≡◌, ◌<◌, ℕ, Some, false, slice_get}
use Rattle.ipv4_prefix.specs.Prefix.{Prefix}
use Rattle.run_states.specs.Books.{matches_prefix}
use Rattle.run_states.proofs.router_book.set_marks.Given as goal

abbrev pub invariant-loop-number : goal.invariant-loop-number
invariant-loop-number l = (j : ℕ) → slice_get l.marks j ≡ Some false
    → (slice_get l.initial.marks j ≡ Some false) × ((p : Prefix) → j < l.number → slice_get l.prefixes j ≡ Some p → matches_prefix l.which p ≡ false)
