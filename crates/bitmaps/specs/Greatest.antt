-- The greatest number at which there is something.
use Rattle.std.specs.Prelude.{ℕ, ◌≡◌, ◌+◌, ◌<◌, Option, Some, None}

module _ {X : Type 0} where
  -- the greatest number below n at which f has something, with what it has there
  abbrev pub GreatestBelow : (ℕ → Option X) → ℕ → Option (ℕ × X) → Type 0
  GreatestBelow f n None = (k : ℕ) → k < n → f k ≡ None
  GreatestBelow f n (Some best) = (best.0 < n) × (f best.0 ≡ Some best.1) × ((k : ℕ) → best.0 < k → k < n → f k ≡ None)

  -- what was found `bits` further down, if anything, else what was found above
  abbrev pub longer : Option (ℕ × X) → ℕ → Option (ℕ × X) → Option (ℕ × X)
  longer None bits above = above
  longer (Some own) bits above = Some (bits + own.0, own.1)
