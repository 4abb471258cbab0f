-- A change at a place of a list.
use Rattle.std.proofs.Common.{◌≡◌, ℕ, zero, suc, ◌<◌, List, [], ◌∷◌, ◌++◌, length, get_or, set, take, refl, ap, ◌∙◌, arith, take_at}
use Rattle.network_model.specs.Machine.{changed_at}

module _ {A : Type 0} (f : A → A) where
  -- a write at a place is the change there
  pub set-changed_at : (k : ℕ) (xs : List A) (d : A) → k < length xs → set xs k (f (get_or xs k d)) ≡ changed_at k f xs
  set-changed_at k [] d below = absurd (omega arith)
  set-changed_at zero (x ∷ xs) d below = refl
  set-changed_at (suc k) (x ∷ xs) d below = ap (λ ys. x ∷ ys) (set-changed_at k xs d (omega arith))

-- what is left of a list that was written through a slice of all of it: what the slice shows last. items is the slice as it was lent
pub refilled : {A : Type 0} (before items new rest : List A) → length new ≡ length items → items ≡ before → take (length before) (new ++ rest) ≡ new
refilled before items new rest whole same = take_at new rest (length before) (whole ∙ ap length same)
