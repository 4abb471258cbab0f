-- What holds of each element of a list that was read.
use Rattle.std.proofs.Common.{refl, subst, sym, ap, ◌∙◌, arith, ◌≡◌, ℕ, ◌+◌, ◌<◌, Bool, true, false, ◌==◌, List, length, get_or, eqb-true, eq-eqb, true≢false}
use Rattle.no_packet_loops.proofs.Common.{get_or_default}

-- what holds of each element before one, and of that one, holds of each before the next
pub all_more : {A : Type 0} (P : A → Type 0) (xs : List A) (i : ℕ) (x : A) → i < length xs → x ≡ get_or xs i x → P x
    → ((k : ℕ) (d : A) → k < i → P (get_or xs k d)) → (k : ℕ) (d : A) → k < i + 1 → P (get_or xs k d)
all_more {A} P xs i x below at here before k d h = by_test (k == i) refl
  where
    by_test : (b : Bool) → (k == i) ≡ b → P (get_or xs k d)
    by_test true same =
        let is : k ≡ i = eqb-true k i same in
        subst P (at ∙ get_or_default xs i x d below ∙ ap (λ n. get_or xs n d) (sym is)) here
    by_test false differ =
        let apart : k ≡ i → ⊥ = λ e. true≢false (sym (eq-eqb k i e) ∙ differ) in
        before k d (omega (arith, apart))
