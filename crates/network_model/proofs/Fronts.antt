-- Fronts of lists, and what may be there.
use Rattle.std.proofs.Common.{◌≡◌, ℕ, zero, suc, ◌+◌, List, [], ◌∷◌, ◌++◌, Option, Some, None, IfSome, refl, ap, take, slice_get, add-one}
use Rattle.std.proofs.lemmas.Option.{none-some, same_Some}

module _ {A : Type 0} where
  -- the front with one more element
  pub take_next : (xs : List A) (n : ℕ) (x : A) → slice_get xs n ≡ Some x → take (n + 1) xs ≡ take n xs ++ x ∷ []
  take_next xs n x at = rw (add-one n) (by_place xs n at)
    where
      by_place : (xs : List A) (n : ℕ) → slice_get xs n ≡ Some x → take (suc n) xs ≡ take n xs ++ x ∷ []
      by_place [] n at = absurd (none-some x at)
      by_place (y ∷ ys) zero at = ap (λ z. z ∷ []) (same_Some y x at)
      by_place (y ∷ ys) (suc n) at = ap (λ zs. y ∷ zs) (by_place ys n at)

-- a fact of what may be there
pub if_some : {A : Type 0} (o : Option A) (P : A → Type 0) → ((a : A) → o ≡ Some a → P a) → IfSome o P
if_some None P each = tt
if_some (Some a) P each = each a refl
