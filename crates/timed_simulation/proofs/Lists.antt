-- Lists with one element written.
use Rattle.std.proofs.Common.{refl, ap, subst, arith, ◌≡◌, ℕ, zero, suc, ◌≤◌, List, [], ◌∷◌, length, set, Some, slice_get}
use Rattle.no_packet_loops.proofs.Common.{changed_at, None_not_Some, Some_injective}

-- past the end nothing changes
pub changed_past : {A : Type 0} (f : A → A) (k : ℕ) (xs : List A) → length xs ≤ k → changed_at k f xs ≡ xs
changed_past f k [] past = refl
changed_past f zero (x ∷ xs) past = absurd (omega (arith, past))
changed_past f (suc k) (x ∷ xs) past = ap (λ ys. x ∷ ys) (changed_past f k xs (omega (arith, past)))

-- what is written stands there
pub set_there : {A : Type 0} (P : A → Type 0) (xs : List A) (i : ℕ) (y k : A) → P y → slice_get (set xs i y) i ≡ Some k → P k
set_there P [] i y k holds at = absurd (None_not_Some at)
set_there P (x ∷ xs) zero y k holds at = subst P (Some_injective at) holds
set_there P (x ∷ xs) (suc i) y k holds at = set_there P xs i y k holds at
