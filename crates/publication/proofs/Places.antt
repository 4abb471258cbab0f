-- Facts of the elements of a list, with their places.
use Rattle.std.proofs.Common.{◌≡◌, ◌⊎◌, ℕ, zero, suc, List, [], ◌∷◌, ◌++◌, ◌+◌, ◌∙◌, Some, All, length, set, drop, get_or, slice_get, inl, inr, refl, sym, subst, ap, arith, drop-drop, get_or-drop}
use Rattle.std.proofs.lemmas.Option.{get_or_from_slice_get, slice_get-get_or, slice_get_within}
use Rattle.network_model.proofs.ListLaws.{Some_injective}
use Rattle.publication.specs.Lists.{EachAt}

module _ {A : Type 0} where
  -- an element more, behind the others
  pub each-push : (P : ℕ → A → Type 0) (xs : List A) (x : A) → EachAt P xs → P (length xs) x → EachAt P (xs ++ x ∷ [])
  each-push P [] x each here zero d less = here
  each-push P [] x each here (suc k) d less = absurd (omega (arith, less))
  each-push P (z ∷ xs) x each here zero d less = each zero d (omega arith)
  each-push P (z ∷ xs) x each here (suc k) d less = each-push (λ n. P (suc n)) xs x (λ n e l. each (suc n) e (omega (arith, l))) here k d (omega (arith, less))

  -- the rest of what is left of a list
  pub rest_at : (n : ℕ) (all : List A) (x : A) (xs : List A) → x ∷ xs ≡ drop n all → xs ≡ drop (n + 1) all
  rest_at n all x xs is = ap (drop 1) is ∙ drop-drop 1 n all

  pub first_at : (n : ℕ) (all : List A) (x d : A) (xs : List A) → x ∷ xs ≡ drop n all → x ≡ get_or all n d
  first_at n all x d xs is =
      let here : n + 0 ≡ n = omega arith in
      ap (λ l. get_or l 0 d) is ∙ get_or-drop n all 0 d ∙ ap (λ k. get_or all k d) here

  pub rest_all : (P : A → Type 0) (all : List A) (x : A) (xs : List A) → all ≡ x ∷ xs → All P all → All P xs
  rest_all P all x xs is each = let h : All P (x ∷ xs) = subst (All P) is each in λ k d less. h (suc k) d (omega (arith, less))

module _ {A : Type 0} (P : ℕ → A → Type 0) (xs : List A) where
  -- what holds of each element holds of the one at a place
  pub each_there : EachAt P xs → (k : ℕ) (x : A) → slice_get xs k ≡ Some x → P k x
  each_there each k x at = subst (P k) (get_or_from_slice_get xs k x x at) (each k x (slice_get_within xs k x at))

  pub there_each : ((k : ℕ) (x : A) → slice_get xs k ≡ Some x → P k x) → EachAt P xs
  there_each there k d less = there k (get_or xs k d) (slice_get-get_or xs k d less)

module _ {A : Type 0} where
  -- an element of a list of which one was set is that one, or was there
  pub at_set : (xs : List A) (i k : ℕ) (y x : A) → slice_get (set xs i y) k ≡ Some x → ((k ≡ i) × (x ≡ y)) ⊎ (slice_get xs k ≡ Some x)
  at_set (z ∷ zs) zero zero y x at = inl (refl, sym (Some_injective at))
  at_set (z ∷ zs) (suc i) (suc k) y x at = behind (at_set zs i k y x at)
    where
      behind : ((k ≡ i) × (x ≡ y)) ⊎ (slice_get zs k ≡ Some x) → ((suc k ≡ suc i) × (x ≡ y)) ⊎ (slice_get zs k ≡ Some x)
      behind (inl here) = inl (ap suc here.0, here.1)
      behind (inr there) = inr there
  at_set _ _ _ y x at = inr at

module _ {A : Type 0} (P : ℕ → A → Type 0) (xs : List A) (i : ℕ) (y : A) where
  -- a fact of each element, of which one is set to one of which it holds
  pub each_set : EachAt P xs → P i y → EachAt P (set xs i y)
  each_set each here = there_each P (set xs i y) (λ k x at. by_place k x (at_set xs i k y x at))
    where
      by_place : (k : ℕ) (x : A) → ((k ≡ i) × (x ≡ y)) ⊎ (slice_get xs k ≡ Some x) → P k x
      by_place k x (inl at) = subst (λ z. P k z) (sym at.1) (subst (λ m. P m y) (sym at.0) here)
      by_place k x (inr there) = each_there P xs each k x there
