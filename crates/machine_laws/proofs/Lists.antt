-- Lists: where a test passes, and two lists in a row.
use Rattle.std.proofs.Common.{◌≡◌, ◌⊎◌, ℕ, zero, suc, ◌+◌, ◌<◌, Bool, true, false, cond, ◌||◌, List, [], ◌∷◌, ◌++◌, length, Some, None, refl, ap, sym, inl, inr, arith, subst, slice_get}
use Rattle.network_model.proofs.Common.{list_any, position_from, or_cases, or_parts, same_Some, none-some, changed_at}
use Rattle.machine_laws.specs.Laws.{test_at}

-- some element passes the test
abbrev pub Passes : {A : Type 0} → (A → Bool) → List A → Type 0
Passes {A} test xs = (p : ℕ) × (x : A) × (slice_get xs p ≡ Some x) × (test x ≡ true)

-- where a test passes in a list, some element passes it
pub list_any_place : {A : Type 0} (test : A → Bool) (xs : List A) → list_any test xs ≡ true → Passes test xs
list_any_place test [] h = cc
list_any_place test (x ∷ xs) h = go (or_cases (test x) (list_any test xs) h) (list_any_place test xs)
  where
    go : ((test x ≡ true) ⊎ (list_any test xs ≡ true)) → (list_any test xs ≡ true → Passes test xs) → Passes test (x ∷ xs)
    go (inl t) rest = (zero, x, refl, t)
    go (inr t) rest = let (p, y, e, u) = rest t in (suc p, y, e, u)

-- where a test passes nowhere in a list, no element passes it
pub list_any_nowhere : {A : Type 0} (test : A → Bool) (xs : List A) → list_any test xs ≡ false → (p : ℕ) (x : A) → slice_get xs p ≡ Some x → test x ≡ false
list_any_nowhere test [] h p x e = absurd (none-some x e)
list_any_nowhere test (y ∷ ys) h zero x e = subst (λ z. test z ≡ false) (same_Some y x e) (or_parts (test y) (list_any test ys) h).0
list_any_nowhere test (y ∷ ys) h (suc p) x e = list_any_nowhere test ys (or_parts (test y) (list_any test ys) h).1 p x e

-- the first place that passes, counted from k, has an element that passes
pub position_passes : {A : Type 0} (test : A → Bool) (k : ℕ) (xs : List A) (p : ℕ) → position_from test k xs ≡ Some p → (j : ℕ) × (x : A) × (p ≡ k + j) × (slice_get xs j ≡ Some x) × (test x ≡ true)
position_passes test k [] p h = absurd (none-some p h)
position_passes test k (x ∷ xs) p h = go (test x) refl h (position_passes test (k + 1) xs p)
  where
    go : (b : Bool) → test x ≡ b → cond b (Some k) (position_from test (k + 1) xs) ≡ Some p
        → (position_from test (k + 1) xs ≡ Some p → (j : ℕ) × (y : _) × (p ≡ k + 1 + j) × (slice_get xs j ≡ Some y) × (test y ≡ true))
        → (j : ℕ) × (y : _) × (p ≡ k + j) × (slice_get (x ∷ xs) j ≡ Some y) × (test y ≡ true)
    go true t e rest = (zero, x, omega (arith, same_Some k p e), refl, t)
    go false t e rest = let (j, y, at, here, passes) = rest e in (suc j, y, omega (arith, at), here, passes)

-- where some element passes, there is a first place that does
pub position_found : {A : Type 0} (test : A → Bool) (k : ℕ) (xs : List A) → list_any test xs ≡ true → position_from test k xs ≡ None → ⊥
position_found test k [] h e = cc
position_found test k (x ∷ xs) h e = go (test x) h e (position_found test (k + 1) xs)
  where
    go : (b : Bool) → (b || list_any test xs) ≡ true → cond b (Some k) (position_from test (k + 1) xs) ≡ None
        → (list_any test xs ≡ true → position_from test (k + 1) xs ≡ None → ⊥) → ⊥
    go true t e rest = none-some k (sym e)
    go false t e rest = rest t e

-- ---- two lists in a row

-- a place in the first
pub append_within : {A : Type 0} (xs ys : List A) (p : ℕ) → p < length xs → slice_get (xs ++ ys) p ≡ slice_get xs p
append_within [] ys p l = absurd (omega (arith, l))
append_within (x ∷ xs) ys zero l = refl
append_within (x ∷ xs) ys (suc p) l = append_within xs ys p (omega (arith, l))

-- the element after the first
pub append_last : {A : Type 0} (xs : List A) (y : A) → slice_get (xs ++ y ∷ []) (length xs) ≡ Some y
append_last [] y = refl
append_last (x ∷ xs) y = append_last xs y

-- what holds of each element of both holds of each in a row
pub append_each : {A : Type 0} (P : A → Type 0) (xs ys : List A) → ((p : ℕ) (x : A) → slice_get xs p ≡ Some x → P x) → ((p : ℕ) (x : A) → slice_get ys p ≡ Some x → P x)
    → (p : ℕ) (x : A) → slice_get (xs ++ ys) p ≡ Some x → P x
append_each P [] ys f g p x e = g p x e
append_each P (y ∷ xs) ys f g zero x e = f zero x e
append_each P (y ∷ xs) ys f g (suc p) x e = append_each P xs ys (λ k. f (suc k)) g p x e

-- a change in the first leaves the other places
pub changed_append_other : {A : Type 0} (p q : ℕ) (f : A → A) (xs ys : List A) → (p ≡ q → ⊥) → slice_get (changed_at q f xs ++ ys) p ≡ slice_get (xs ++ ys) p
changed_append_other p q f [] ys ne = refl
changed_append_other zero zero f (x ∷ xs) ys ne = absurd (ne refl)
changed_append_other zero (suc q) f (x ∷ xs) ys ne = refl
changed_append_other (suc p) zero f (x ∷ xs) ys ne = refl
changed_append_other (suc p) (suc q) f (x ∷ xs) ys ne = changed_append_other p q f xs ys (λ e. ne (ap suc e))

-- a place at which a test passes is in the list
pub test_within : {A : Type 0} (test : A → Bool) (xs : List A) (p : ℕ) → test_at test (slice_get xs p) ≡ true → p < length xs
test_within test [] p h = cc
test_within test (x ∷ xs) zero h = omega arith
test_within test (x ∷ xs) (suc p) h = omega (arith, test_within test xs p h)
