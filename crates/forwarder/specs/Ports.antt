-- What the readers of a port see.
use Rattle.std.specs.Prelude.{◌≡◌, ℕ, List, Some, length, slice_get}
use Rattle.publication.specs.{declared.known.Known.Known, Lists.Begins, Lists.EachAt}

-- one view of each router, by the routers' numbers
abbrev pub IsOneEach : ℕ → List Known → Type 0
IsOneEach routers views = (length views ≡ routers) × EachAt (λ i v. v.router ≡ i) views

-- each view begins the one that came after it
abbrev pub AreLater : List Known → List Known → Type 0
AreLater before after = (length after ≡ length before) × ((i : ℕ) (v w : Known) → slice_get before i ≡ Some v → slice_get after i ≡ Some w → Begins v w)
