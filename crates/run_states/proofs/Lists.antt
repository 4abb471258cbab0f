-- Lists by place: what stands there after a write.
use Rattle.std.proofs.Common.{refl, ap, sym, ◌∙◌, ◌≡◌, ◌≢◌, ℕ, zero, suc, ◌<◌, ◌≤◌, None, List, [], ◌∷◌, ◌++◌, Option, Some, option_map, length, map, set, take, slice_get, get_or, drop, subst, All, arith}
use Rattle.std.proofs.lemmas.Option.{get_or_from_slice_get, none-some, same_Some, slice_get-get_or, slice_get_past, slice_get_read, slice_get_within}
use Rattle.std.proofs.{lemmas.List.set-get_or, Math.Seq.take-append_seam}

module _ {A : Type 0} where
  -- what was written at a place stands there
  pub slice_get-set_same : (xs : List A) (i : ℕ) (x : A) → i < length xs → slice_get (set xs i x) i ≡ Some x
  slice_get-set_same [] i x below = absurd (omega (arith, below))
  slice_get-set_same (y ∷ ys) zero x below = refl
  slice_get-set_same (y ∷ ys) (suc i) x below = slice_get-set_same ys i x (omega (arith, below))

  -- another place keeps what it had
  pub slice_get-set_other : (xs : List A) (i j : ℕ) (x : A) → j ≢ i → slice_get (set xs i x) j ≡ slice_get xs j
  slice_get-set_other (y ∷ ys) zero zero x apart = absurd (apart refl)
  slice_get-set_other (y ∷ ys) (suc i) (suc j) x apart = slice_get-set_other ys i j x (λ e. apart (ap suc e))
  slice_get-set_other _ _ _ x apart = refl

  -- what holds of each element holds of the one at a place
  pub all_at : (P : A → Type 0) (xs : List A) (i : ℕ) (x : A) → All P xs → slice_get xs i ≡ Some x → P x
  all_at P xs i x all at = subst P (get_or_from_slice_get xs i x x at) (all i x (slice_get_within xs i x at))

  -- what holds of the element at each place holds of each
  pub all_from : (P : A → Type 0) (xs : List A) → ((i : ℕ) (x : A) → slice_get xs i ≡ Some x → P x) → All P xs
  all_from P xs each = λ i d within. each i (get_or xs i d) (slice_get-get_or xs i d within)

  -- the element that was read, and where there is none
  pub read_there : (xs ys : List A) (i k : ℕ) (x : A) → xs ≡ ys → k ≡ i → k < length xs → x ≡ get_or xs k x → slice_get ys i ≡ Some x
  read_there xs ys i k x same place within read = ap (λ zs. slice_get zs i) (sym same) ∙ ap (slice_get xs) (sym place) ∙ slice_get_read xs (length xs) k x refl within read

  pub none_there : (xs ys : List A) (i k : ℕ) → xs ≡ ys → k ≡ i → length xs ≤ k → slice_get ys i ≡ None
  none_there xs ys i k same place past = ap (λ zs. slice_get zs i) (sym same) ∙ ap (slice_get xs) (sym place) ∙ slice_get_past xs k past

  -- all of a list was written over
  pub written_over : (xs old : List A) (n : ℕ) → n ≡ length xs → take n (xs ++ drop (length xs) old) ≡ xs
  written_over xs old n long = ap (λ k. take k (xs ++ drop (length xs) old)) long ∙ take-append_seam xs (drop (length xs) old)

  -- an element written over by one of which the same is made
  pub written_alike : {B : Type 0} (f : A → B) (xs : List A) (i : ℕ) (old new : A) → slice_get xs i ≡ Some old → f new ≡ f old → map f (set xs i new) ≡ map f xs
  written_alike f [] i old new at same = refl
  written_alike f (x ∷ xs) zero old new at same = ap (λ y. y ∷ map f xs) (same ∙ ap f (sym (same_Some x old at)))
  written_alike f (x ∷ xs) (suc i) old new at same = ap (λ ys. f x ∷ ys) (written_alike f xs i old new at same)

  -- an element written over by itself
  pub written_same : (xs : List A) (n : ℕ) (x : A) → x ≡ get_or xs n x → set xs n x ≡ xs
  written_same xs n x is = ap (set xs n) is ∙ set-get_or xs n x

-- something is there that was made of something
pub made_of : {A B : Type 0} (f : A → B) (o : Option A) (y : B) → option_map f o ≡ Some y → (x : A) × (o ≡ Some x)
made_of f None y made = absurd (none-some y made)
made_of f (Some x) y made = (x, refl)
