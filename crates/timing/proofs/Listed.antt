-- Values that are given for some of many.
use Rattle.std.proofs.Common.{◌≡◌, ℕ, ◌<◌, ◌+◌, zero, suc, List, [], ◌∷◌, drop, get_or, length, refl, ap, sym, subst, ◌∙◌, arith}
use Rattle.network_model.specs.Machine.{changed_at}
use Rattle.timing.specs.declared.given.Given.{Given}
use Rattle.timing.specs.Given.{with_given}

-- one more is set
given_next : {T : Type 0} (xs : List (Given T)) (i : ℕ) (d : Given T) (vs : List T) → i < length xs
    → with_given (drop i xs) vs ≡ with_given (drop (suc i) xs) (changed_at (get_or xs i d).number (λ _. (get_or xs i d).value) vs)
given_next [] i d vs within = absurd (omega (arith, within))
given_next (x ∷ xs) zero d vs within = refl
given_next (x ∷ xs) (suc i) d vs within = given_next xs i d vs (omega (arith, within))

-- where the values so far, and those that are still to be set, make the values that are wanted, so they do with one more set
pub given_set : {T : Type 0} (xs : List (Given T)) (i : ℕ) (x : Given T) (vs new wanted : List T) → i < length xs → x ≡ get_or xs i x
    → with_given (drop i xs) vs ≡ wanted → new ≡ changed_at x.number (λ _. x.value) vs → with_given (drop (i + 1) xs) new ≡ wanted
given_set {T} xs i x vs new wanted within is so_far set =
    let next : suc i ≡ i + 1 = omega arith in
    subst (λ n. with_given (drop n xs) new ≡ wanted) next
    (ap (with_given (drop (suc i) xs)) (set ∙ ap (λ (y : Given T). changed_at y.number (λ _. y.value) vs) is) ∙ sym (given_next xs i x vs within) ∙ so_far)
