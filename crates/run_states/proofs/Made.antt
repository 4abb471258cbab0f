-- Lists of what is made of numbers and of elements, one more at a time.
use Rattle.std.proofs.Common.{ap, sym, ◌∙◌, ◌≡◌, ℕ, zero, suc, ◌+◌, Bool, true, false, List, [], ◌∷◌, ◌++◌, map, take, slice_get, Some, add-one, arith, if◌then◌else◌, filter}
use Rattle.std.specs.List.{flat_map, range_with_len}
use Rattle.std.proofs.{lemmas.List.append-nil, lemmas.List.map-append, lemmas.List.Concat.flat_map-append, lemmas.List.Elements.filter-append}
use Rattle.network_model.proofs.Fronts.{take_next}

-- n numbers and one more
range_next : (a n : ℕ) → range_with_len a (suc n) ≡ range_with_len a n ++ (a + n) ∷ []
range_next a zero = let e : a ≡ a + 0 = omega arith in ap (λ k. k ∷ []) e
range_next a (suc n) = let e : (a + 1) + n ≡ a + suc n = omega arith in ap (λ ks. a ∷ ks) (range_next (a + 1) n ∙ ap (λ k. range_with_len (a + 1) n ++ k ∷ []) e)

-- what is made of those that pass a test, and of one more number
pub passed_next : {X : Type 0} (f : ℕ → X) (p : ℕ → Bool) (n : ℕ) → map f (filter p (range_with_len 0 (n + 1))) ≡ map f (filter p (range_with_len 0 n)) ++ map f (filter p (n ∷ []))
passed_next f p n =
    let one : range_with_len 0 (n + 1) ≡ range_with_len 0 n ++ n ∷ [] = ap (range_with_len 0) (add-one n) ∙ range_next 0 n ∙ (let e : 0 + n ≡ n = omega arith in ap (λ k. range_with_len 0 n ++ k ∷ []) e) in
    ap (λ ks. map f (filter p ks)) one ∙ ap (map f) (filter-append p (range_with_len 0 n) (n ∷ [])) ∙ map-append f (filter p (range_with_len 0 n)) (filter p (n ∷ []))

-- a number that passes, and one that does not
pub passes : {X : Type 0} (f : ℕ → X) (p : ℕ → Bool) (n : ℕ) → p n ≡ true → map f (filter p (n ∷ [])) ≡ f n ∷ []
passes f p n passed = ap (λ b. map f (if b then n ∷ [] else [])) passed

pub fails : {X : Type 0} (f : ℕ → X) (p : ℕ → Bool) (n : ℕ) → p n ≡ false → map f (filter p (n ∷ [])) ≡ []
fails f p n failed = ap (λ b. map f (if b then n ∷ [] else [])) failed

-- what is made of the elements at the front, and of one more
pub made_next : {A B X : Type 0} (g : B → X) (f : A → X) (xs : List A) (n : ℕ) (x : A) (ys : List B) (y : B) → slice_get xs n ≡ Some x → g y ≡ f x
    → map g ys ≡ map f (take n xs) → map g (ys ++ y ∷ []) ≡ map f (take (n + 1) xs)
made_next g f xs n x ys y at same made =
    map-append g ys (y ∷ []) ∙ ap (λ zs. zs ++ g y ∷ []) made ∙ ap (λ z. map f (take n xs) ++ z ∷ []) same ∙ sym (ap (map f) (take_next xs n x at) ∙ map-append f (take n xs) (x ∷ []))

-- what is made of one more
pub pushed : {A X : Type 0} (g : A → X) (xs ys : List A) (y : A) (x : X) → ys ≡ xs ++ y ∷ [] → g y ≡ x → map g ys ≡ map g xs ++ x ∷ []
pushed g xs ys y x more is = ap (map g) more ∙ map-append g xs (y ∷ []) ∙ ap (λ z. map g xs ++ z ∷ []) is

-- lists that are made of the elements at the front, joined, and that of one more
pub joined_next : {A X : Type 0} (f : A → List X) (xs : List A) (n : ℕ) (x : A) (old new : List X) → slice_get xs n ≡ Some x → new ≡ old ++ f x
    → old ≡ flat_map f (take n xs) → new ≡ flat_map f (take (n + 1) xs)
joined_next f xs n x old new at more made =
    more ∙ ap (λ ys. ys ++ f x) made
    ∙ sym (ap (flat_map f) (take_next xs n x at) ∙ flat_map-append f (take n xs) (x ∷ []) ∙ ap (λ ys. flat_map f (take n xs) ++ ys) (append-nil (f x)))

-- what is made of numbers from 0, and of one more
pub numbered_next : {A X : Type 0} (g : A → X) (f : ℕ → X) (n : ℕ) (xs ys : List A) (y : A) → ys ≡ xs ++ y ∷ [] → g y ≡ f n → map g xs ≡ map f (range_with_len 0 n) → map g ys ≡ map f (range_with_len 0 (n + 1))
numbered_next g f n xs ys y more is made =
    pushed g xs ys y (f n) more is ∙ ap (λ zs. zs ++ f n ∷ []) made
    ∙ sym (ap (map f) (ap (range_with_len 0) (add-one n) ∙ range_next 0 n ∙ (let e : 0 + n ≡ n = omega arith in ap (λ k. range_with_len 0 n ++ k ∷ []) e)) ∙ map-append f (range_with_len 0 n) (n ∷ []))
