-- What cells hold, and what is written to them.
use Rattle.std.specs.Prelude.{ℕ, ◌≡◌, ◌+◌, ◌<◌, ◌≤◌, List, Option, Some, None, slice_index_or}
use Rattle.node_pool.specs.{declared.cells.Cell.Cell, declared.cells.Cell.TheVariants.Free, declared.cells.Cell.TheVariants.Used}

module _ {T : Type 0} where
  -- the value in a cell, or none where it is free
  abbrev pub value_of : Cell T → Option T
  value_of (Free _) = None
  value_of (Used value) = Some value

  -- the block that a free cell names
  abbrev pub next_free : Cell T → ℕ
  next_free (Free next) = next
  next_free (Used _) = 0

  -- the cell at a place; a free one where there is none
  abbrev pub cell_at : List (Cell T) → ℕ → Cell T
  cell_at cells k = slice_index_or cells k (Free 0)

  -- the value at a place, or none where the cell is free or there is none
  abbrev pub at : List (Cell T) → ℕ → Option T
  at cells k = value_of (cell_at cells k)

module _ {A : Type 0} where
  -- every place of a block has the same now; the others stay
  pub record IsFilled (old new : ℕ → A) (base size : ℕ) (value : A) : Type 0 where
    pub inside : (k : ℕ) → base ≤ k → k < base + size → new k ≡ value
    pub below : (k : ℕ) → k < base → new k ≡ old k
    pub above : (k : ℕ) → base + size ≤ k → new k ≡ old k

  -- a block of `size` places was copied, with a gap that holds a value; what is outside the copy stays
  pub record IsShifted (old new : ℕ → A) (from size gap : ℕ) (value : A) (to : ℕ) : Type 0 where
    pub low : (t : ℕ) → t < gap → new (to + t) ≡ old (from + t)
    pub middle : new (to + gap) ≡ value
    pub high : (t : ℕ) → gap ≤ t → t < size → new (to + (t + 1)) ≡ old (from + t)
    pub below : (k : ℕ) → k < to → new k ≡ old k
    pub above : (k : ℕ) → to + (size + 1) ≤ k → new k ≡ old k
