-- Elements of lists, by their places: after a push and after a write.
use Rattle.std.proofs.Common.{refl, sym, ap, subst, ◌∙◌, arith, inl, inr, append-nil, append_assoc, ◌≡◌, ◌≢◌, ◌⊎◌, ℕ, zero, suc, ◌+◌, ◌<◌, List, [], ◌∷◌, ◌++◌, map, length, set, Some, slice_get}
use mathlib.Core.List.{IsPrefix}
use Rattle.no_packet_loops.proofs.Common.{None_not_Some, Some_injective}
use Rattle.timed_reports.specs.Records.{IsListed}

module _ {A : Type 0} where
  -- what stands in a list stands there after a push
  pub get_first : (xs ys : List A) (k : ℕ) (x : A) → slice_get xs k ≡ Some x → slice_get (xs ++ ys) k ≡ Some x
  get_first [] ys k x at = absurd (None_not_Some at)
  get_first (z ∷ xs) ys zero x at = at
  get_first (z ∷ xs) ys (suc k) x at = get_first xs ys k x at

  pub listed_first : (x : A) (xs ys : List A) → IsListed x xs → IsListed x (xs ++ ys)
  listed_first x xs ys (k, at) = (k, get_first xs ys k x at)

  -- and what stands behind one
  pub get_next : (k : ℕ) (z : A) (xs : List A) (x : A) → slice_get xs k ≡ Some x → slice_get (z ∷ xs) (k + 1) ≡ Some x
  get_next k z xs x at = (let on : k + 1 ≡ suc k = omega arith in ap (slice_get (z ∷ xs)) on ∙ at)

  pub listed_behind : (x : A) (xs ys : List A) → IsListed x ys → IsListed x (xs ++ ys)
  listed_behind x [] ys listed = listed
  listed_behind x (z ∷ xs) ys listed = (let (k, at) = listed_behind x xs ys listed in (suc k, at))

  -- what stands in two lists stands in one of them
  pub listed_either : (x : A) (xs ys : List A) → IsListed x (xs ++ ys) → IsListed x xs ⊎ IsListed x ys
  listed_either x [] ys listed = inr listed
  listed_either x (z ∷ xs) ys (zero, at) = inl (0, at)
  listed_either x (z ∷ xs) ys (suc k, at) = by_place (listed_either x xs ys (k, at))
    where
      by_place : IsListed x xs ⊎ IsListed x ys → IsListed x (z ∷ xs) ⊎ IsListed x ys
      by_place (inl (j, there)) = inl (suc j, there)
      by_place (inr there) = inr there

  -- what was pushed stands there
  pub listed_last : (x : A) (xs : List A) → IsListed x (xs ++ x ∷ [])
  listed_last x [] = (0, refl)
  listed_last x (z ∷ xs) = (let (k, at) = listed_last x xs in (suc k, at))

  -- and nothing else
  pub get_pushed : (xs : List A) (y : A) (k : ℕ) (x : A) → slice_get (xs ++ y ∷ []) k ≡ Some x → (slice_get xs k ≡ Some x) ⊎ (y ≡ x)
  get_pushed [] y zero x at = inr (Some_injective at)
  get_pushed (z ∷ xs) y (suc k) x at = get_pushed xs y k x at
  get_pushed _ y _ x at = inl at

  -- what holds of each element holds after a push
  pub each_pushed : (P : A → Type 0) (xs : List A) (y : A) → ((k : ℕ) (x : A) → slice_get xs k ≡ Some x → P x) → P y → (k : ℕ) (x : A) → slice_get (xs ++ y ∷ []) k ≡ Some x → P x
  each_pushed P xs y each holds k x at = by_place (get_pushed xs y k x at)
    where
      by_place : (slice_get xs k ≡ Some x) ⊎ (y ≡ x) → P x
      by_place (inl before) = each k x before
      by_place (inr same) = subst P same holds

  -- an element stands at each place of a list
  pub get_within : (xs : List A) (k : ℕ) → k < length xs → (x : A) × (slice_get xs k ≡ Some x)
  get_within [] k below = absurd (omega (arith, below))
  get_within (x ∷ xs) zero below = (x, refl)
  get_within (x ∷ xs) (suc k) below = get_within xs k (omega (arith, below))

  -- what was written at a place stands there
  pub set_same : (xs : List A) (k : ℕ) (x y : A) → slice_get xs k ≡ Some x → slice_get (set xs k y) k ≡ Some y
  set_same [] k x y at = absurd (None_not_Some at)
  set_same (z ∷ xs) zero x y at = refl
  set_same (z ∷ xs) (suc k) x y at = set_same xs k x y at

  -- another place keeps what it had
  pub set_other : (xs : List A) (k j : ℕ) (y : A) → j ≢ k → slice_get (set xs k y) j ≡ slice_get xs j
  set_other (z ∷ xs) zero zero y apart = absurd (apart refl)
  set_other (z ∷ xs) (suc k) (suc j) y apart = set_other xs k j y (λ e. apart (ap suc e))
  set_other _ _ _ y apart = refl

  -- ---- lists that grow

  pub prefix_same : (xs : List A) → IsPrefix xs xs
  prefix_same xs = ([], append-nil xs)

  pub prefix_further : (xs ys zs : List A) → IsPrefix xs ys → IsPrefix ys zs → IsPrefix xs zs
  prefix_further xs ys zs begins more = (begins.0 ++ more.0, sym (append_assoc xs begins.0 more.0) ∙ ap (λ (l : List A). l ++ more.0) begins.1 ∙ more.1)

-- lists whose elements show the same, place by place
pub map_alike : {A B : Type 0} (f : A → B) (xs ys : List A) → length ys ≡ length xs → ((k : ℕ) (x y : A) → slice_get xs k ≡ Some x → slice_get ys k ≡ Some y → f y ≡ f x) → map f ys ≡ map f xs
map_alike f [] [] long each = refl
map_alike f [] (y ∷ ys) long each = absurd (omega (arith, long))
map_alike f (x ∷ xs) [] long each = absurd (omega (arith, long))
map_alike {A} {B} f (x ∷ xs) (y ∷ ys) long each =
    ap (λ (z : B). z ∷ map f ys) (each 0 x y refl refl)
    ∙ ap (λ (zs : List B). f x ∷ zs) (map_alike f xs ys (omega (arith, long)) (λ k a b at there. each (suc k) a b at there))
