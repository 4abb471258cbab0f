-- What is some and what is nothing, and what holds at a refusal.
use Rattle.std.proofs.Common.{◌≡◌, ◌⊎◌, inl, inr, true, Option, Some, None, is_some, refl, Result, Ok, Err, OnErr}
use Rattle.std.proofs.lemmas.Bool.{false≢true}

-- there is something or nothing
pub cases_option : {A : Type 0} (o : Option A) → (o ≡ None) ⊎ ((x : A) × (o ≡ Some x))
cases_option None = inl refl
cases_option (Some x) = inr (x, refl)

-- what is some is something
pub some-from : {A : Type 0} (o : Option A) → is_some o ≡ true → (x : A) × (o ≡ Some x)
some-from None h = absurd (false≢true h)
some-from (Some x) h = (x, refl)

-- nothing is not something
pub none≢some : {A : Type 0} (o : Option A) (x : A) → o ≡ None → o ≡ Some x → ⊥
none≢some o x n s = cc

-- one option holds one thing
pub Some_same : {A : Type 0} (o : Option A) (x y : A) → o ≡ Some x → o ≡ Some y → x ≡ y
Some_same o x y a b = cc

-- what holds, holds at a refusal
pub refused : {T E P : Type 0} (r : Result T E) → P → OnErr r P
refused (Ok x) p = tt
refused (Err e) p = p
