-- What writes in a loop leave in the cells.
use Rattle.std.proofs.Common.{ℕ, ◌≡◌, ◌≢◌, ◌+◌, ◌<◌, ◌≤◌, List, set, get_or-set_other}
use Rattle.node_pool.specs.{Cell.cell_at, declared.cells.Cell.Cell, declared.cells.Cell.TheVariants.Free}

module _ {T : Type 0} where
  -- the other places keep theirs
  pub cell_at-set_other : (xs : List (Cell T)) (i k : ℕ) (c : Cell T) → k ≢ i → cell_at (set xs i c) k ≡ cell_at xs k
  cell_at-set_other xs i k c n = get_or-set_other xs i k c (Free 0) n

  -- the first `count` places of a block were copied; what is outside the copy stays
  pub record IsCopied (old new : ℕ → Cell T) (from size to count : ℕ) : Type 0 where
    pub low : (t : ℕ) → t < count → new (to + t) ≡ old (from + t)
    pub below : (k : ℕ) → k < to → new k ≡ old k
    pub above : (k : ℕ) → to + (size + 1) ≤ k → new k ≡ old k

  -- a block was copied with a gap, as far as its first `count` places
  pub record IsShifting (old new : ℕ → Cell T) (from size gap : ℕ) (value : Cell T) (to count : ℕ) : Type 0 where
    pub low : (t : ℕ) → t < gap → new (to + t) ≡ old (from + t)
    pub middle : new (to + gap) ≡ value
    pub high : (t : ℕ) → gap ≤ t → t < count → new (to + (t + 1)) ≡ old (from + t)
    pub below : (k : ℕ) → k < to → new k ≡ old k
    pub above : (k : ℕ) → to + (size + 1) ≤ k → new k ≡ old k
