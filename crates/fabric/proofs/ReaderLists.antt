-- Readers that are taken from the lists of their routers.
use Rattle.std.proofs.Common.{inl, inr, sym, subst, arith, length-append, ◌≡◌, ◌⊎◌, ◌≤◌, ◌<◌, ◌+◌, ℕ, zero, suc, List, [], ◌∷◌, ◌++◌, length, set, Some, All, slice_get}
use Rattle.publication.specs.{declared.known.Known.Known, Lists.no_patches}
use Rattle.publication.proofs.Places.{at_set, each_there, there_each}
use Rattle.fabric.specs.Writers.{HaveReaders}

module _ {A : Type 0} where
  -- what holds of all of a list holds of all but its last, and of its last
  all_front : (P : A → Type 0) (xs : List A) (y : A) → All P (xs ++ y ∷ []) → All P xs
  all_front P [] y all k d less = absurd (omega (arith, less))
  all_front P (x ∷ xs) y all zero d less = all 0 d (omega arith)
  all_front P (x ∷ xs) y all (suc k) d less = all_front P xs y (λ j e within. all (suc j) e (omega (arith, within))) k d (omega (arith, less))

  all_last : (P : A → Type 0) (xs : List A) (y : A) → All P (xs ++ y ∷ []) → P y
  all_last P [] y all = all 0 y (omega arith)
  all_last P (x ∷ xs) y all = all_last P xs y (λ j e within. all (suc j) e (omega (arith, within)))

module _ (lists : List (List Known)) (i : ℕ) (rest : List Known) (reader : Known) (there : slice_get lists i ≡ Some (rest ++ reader ∷ [])) where
  -- the reader that is taken has seen nothing published
  pub taken_is : HaveReaders 0 lists → reader ≡ no_patches i
  taken_is stock = all_last (λ r. r ≡ no_patches i) rest reader (each_there (λ j rs. (0 ≤ length rs) × All (λ r. r ≡ no_patches j) rs) lists stock i (rest ++ reader ∷ []) there).1

  pub left_after : (many k : ℕ) → k < many → many ≤ length (rest ++ reader ∷ []) → HaveReaders k lists → HaveReaders k (set lists i rest)
  left_after many k fewer enough stock = there_each (λ j rs. (k ≤ length rs) × All (λ r. r ≡ no_patches j) rs) (set lists i rest) (λ j rs at. by_place j rs (at_set lists i j rest rs at))
    where
      were : (j : ℕ) (rs : List Known) → slice_get lists j ≡ Some rs → (k ≤ length rs) × All (λ r. r ≡ no_patches j) rs
      were = each_there (λ j rs. (k ≤ length rs) × All (λ r. r ≡ no_patches j) rs) lists stock

      by_place : (j : ℕ) (rs : List Known) → ((j ≡ i) × (rs ≡ rest)) ⊎ (slice_get lists j ≡ Some rs) → (k ≤ length rs) × All (λ r. r ≡ no_patches j) rs
      by_place j rs (inl here) =
          let one_more : length (rest ++ reader ∷ []) ≡ length rest + 1 = length-append rest (reader ∷ []) in
          let long : k ≤ length rest = omega (arith, fewer, enough, one_more) in
          let all : All (λ r. r ≡ no_patches i) rest = all_front (λ r. r ≡ no_patches i) rest reader (were i (rest ++ reader ∷ []) there).1 in (
            subst (λ xs. k ≤ length xs) (sym here.1) long,
            subst (λ xs. All (λ r. r ≡ no_patches j) xs) (sym here.1) (subst (λ m. All (λ r. r ≡ no_patches m) rest) (sym here.0) all),
          )
      by_place j rs (inr other) = were j rs other

  -- the others stay
  pub others_after : (many : ℕ) → ((j : ℕ) → i ≤ j → (rs : List Known) → slice_get lists j ≡ Some rs → many ≤ length rs)
      → (j : ℕ) → i + 1 ≤ j → (rs : List Known) → slice_get (set lists i rest) j ≡ Some rs → many ≤ length rs
  others_after many enough j later rs at = by_place (at_set lists i j rest rs at)
    where
      by_place : ((j ≡ i) × (rs ≡ rest)) ⊎ (slice_get lists j ≡ Some rs) → many ≤ length rs
      by_place (inl here) = absurd (let same : j ≡ i = here.0 in omega (arith, later, same))
      by_place (inr other) = enough j (omega (arith, later)) rs other

-- what holds of an element holds of all of the list of it alone
pub all_one : {A : Type 0} (P : A → Type 0) (x : A) → P x → All P (x ∷ [])
all_one P x here zero d less = here
all_one P x here (suc k) d less = absurd (omega (arith, less))
