-- Lists and their last elements.
use Rattle.std.proofs.Common.{◌≡◌, ℕ, zero, suc, ◌+◌, List, [], ◌∷◌, ◌++◌, length, length-append, sum_by, All, subst, sym, refl, ap, ◌∙◌, arith}
use Rattle.std.proofs.{lemmas.List.Elements.All-push, lemmas.List.Sums.sum_by-append, lemmas.List.Sums.sum_by_push}

module _ {X : Type 0} (P : X → Type 0) where
  front : (xs : List X) (y : X) → All P (xs ++ y ∷ []) → All P xs
  front [] y a k d l = absurd (omega arith)
  front (x ∷ xs) y a zero d l = a 0 d (omega (arith, length-append xs (y ∷ [])))
  front (x ∷ xs) y a (suc k) d l = front xs y (λ j e m. a (suc j) e (omega arith)) k d (omega arith)

  last : (xs : List X) (y : X) → All P (xs ++ y ∷ []) → P y
  last [] y a = a 0 y (omega arith)
  last (x ∷ xs) y a = last xs y (λ j e m. a (suc j) e (omega arith))

  -- what holds of all holds of those before the last
  pub all_front : (all xs : List X) (y : X) → all ≡ xs ++ y ∷ [] → All P all → All P xs
  all_front all xs y e a = front xs y (subst (All P) {x = all} e a)

  pub all_last : (all xs : List X) (y : X) → all ≡ xs ++ y ∷ [] → All P all → P y
  all_last all xs y e a = last xs y (subst (All P) {x = all} e a)

  -- what holds of some and of one more holds of all
  pub all_pushed : (all xs : List X) (y : X) → all ≡ xs ++ y ∷ [] → All P xs → P y → All P all
  all_pushed all xs y e a p = subst (All P) {x = xs ++ y ∷ []} (sym e) (All-push P xs y a p)

module _ {X : Type 0} (f : X → ℕ) where
  pub sum_pushed : (all xs : List X) (y : X) → all ≡ xs ++ y ∷ [] → sum_by f all ≡ sum_by f xs + f y
  sum_pushed all xs y e = ap (sum_by f) {x = all} e ∙ sum_by_push f xs y

  pub sum_appended : (all xs ys : List X) → all ≡ xs ++ ys → sum_by f all ≡ sum_by f xs + sum_by f ys
  sum_appended all xs ys e = ap (sum_by f) {x = all} e ∙ sum_by-append f xs ys

  -- what the last element weighs goes from one side to the other
  pub moved : (all xs : List X) (y : X) (a b t : ℕ) → all ≡ xs ++ y ∷ [] → a + sum_by f all ≡ t → b ≡ a + f y → b + sum_by f xs ≡ t
  moved all xs y a b t e s p = omega (arith, sum_pushed all xs y e)

  -- no elements weigh nothing
  pub none : (xs : List X) → length xs ≡ 0 → sum_by f xs ≡ 0
  none [] e = refl
  none (x ∷ xs) e = absurd (omega arith)
