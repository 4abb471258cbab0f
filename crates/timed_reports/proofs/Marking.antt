-- Prefixes that are marked, one after another.
use Rattle.std.proofs.Common.{refl, sym, ap, subst, ◌∙◌, arith, inl, inr, length-set, ◌≡◌, ◌≢◌, ◌⊎◌, ℕ, ◌+◌, ◌<◌, ◌≤◌, IsTrue, Bool, true, false, not, List, length, get_or, set, Some, slice_get, get_or-set_other, get_or-set_same}
use Rattle.no_packet_loops.proofs.Common.{Some_injective, Prefix, World, cases_lt, false≢true, Step}
use Rattle.timed_reports.specs.Records.{MovesNoWay}

-- a test that does not fail passes
passes : (b : Bool) → not b ≡ false → b ≡ true
passes true is = refl
passes false is = absurd (false≢true (sym is))

pub marked_more : (w : World) (s : Step) (n : ℕ) (q : Prefix) → slice_get w.prefixes n ≡ Some q → (still : Bool) → (IsTrue still → MovesNoWay w s q) → (marks : List Bool) → n < length marks
    → ((k : ℕ) (p : Prefix) → k < n → slice_get w.prefixes k ≡ Some p → get_or marks k false ≡ false → MovesNoWay w s p) → (now : List Bool) → now ≡ set marks n (not still)
    → ((k : ℕ) (p : Prefix) → k < n + 1 → slice_get w.prefixes k ≡ Some p → get_or now k false ≡ false → MovesNoWay w s p) × (length now ≡ length marks)
marked_more w s n q here still moves marks within before now is = (each, ap (λ (xs : List Bool). length xs) is ∙ length-set marks n (not still))
  where
    each : (k : ℕ) (p : Prefix) → k < n + 1 → slice_get w.prefixes k ≡ Some p → get_or now k false ≡ false → MovesNoWay w s p
    each k p below at unmarked = by_place (cases_lt k n)
      where
        by_place : (k < n) ⊎ (n ≤ k) → MovesNoWay w s p
        by_place (inl less) =
            let apart : k ≢ n = λ (e : k ≡ n). omega (arith, less, e) in
            before k p less at (sym (get_or-set_other marks n k (not still) false apart) ∙ ap (λ (xs : List Bool). get_or xs k false) (sym is) ∙ unmarked)
        by_place (inr over) =
            let same : k ≡ n = omega (arith, over, below) in
            let prefix : q ≡ p = Some_injective (sym here ∙ ap (slice_get w.prefixes) (sym same) ∙ at) in
            let mark : not still ≡ false = sym (get_or-set_same marks n (not still) false within) ∙ ap (λ (xs : List Bool). get_or xs n false) (sym is) ∙ ap (λ (j : ℕ). get_or now j false) (sym same) ∙ unmarked in
            subst (MovesNoWay w s) prefix (moves (passes still mark))
