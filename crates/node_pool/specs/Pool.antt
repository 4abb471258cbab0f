-- What a pool holds, and what its calls do: from places to values, or none where a cell is free.
use Rattle.std.specs.Prelude.{ℕ, ◌≡◌, ◌≢◌, ◌+◌, ◌-◌, ◌^◌, ◌<◌, ◌≤◌, min, vec_capacity, vec_len, Option, Some, None, is_some, true}
use Rattle.node_pool.specs.{Cell.at, Cell.IsFilled, FreeLists.count_at, declared.pool.Pool.Pool}

module _ {T A : Type 0} where
  -- the value at a place, or none where the cell is free or there is none
  abbrev pub cell : Pool T A → ℕ → Option T
  cell pool k = at pool.cells.items k

  -- how many cells there are, in use and free
  abbrev pub cell_count : Pool T A → ℕ
  cell_count pool = vec_len pool.cells

  -- how many cells can be added without memory, where a pool has at most 2^32
  abbrev pub room : Pool T A → ℕ
  room pool = min (vec_capacity pool.cells) (2 ^ 32) - vec_len pool.cells

  -- how many free blocks of a size there are
  abbrev pub free_blocks : Pool T A → ℕ → ℕ
  free_blocks pool size = count_at pool.free (size - 1)

  -- a pool has no cells
  pub record HasNoCells (pool : Pool T A) : Type 0 where
    pub no_value : (k : ℕ) → cell pool k ≡ None
    pub no_cell : cell_count pool ≡ 0
    pub no_block : (size : ℕ) → free_blocks pool size ≡ 0

  -- cells and free blocks stay, and there is no less room
  pub record KeepsCells (old new : Pool T A) : Type 0 where
    pub values : (k : ℕ) → cell new k ≡ cell old k
    pub count : cell_count new ≡ cell_count old
    pub blocks : (size : ℕ) → free_blocks new size ≡ free_blocks old size
    pub no_less : room old ≤ room new

  -- another pool has the same cells and the same free blocks
  pub record HasSameCells (one other : Pool T A) : Type 0 where
    pub values : (k : ℕ) → cell other k ≡ cell one k
    pub count : cell_count other ≡ cell_count one
    pub blocks : (size : ℕ) → free_blocks other size ≡ free_blocks one size

  -- no cell was added
  pub record IsNoLarger (old new : Pool T A) : Type 0 where
    pub count : cell_count new ≡ cell_count old
    pub same_room : room new ≡ room old

  -- as many cells were added as the block has, which lies behind those that were there
  pub record IsBehind (old new : Pool T A) (base size : ℕ) : Type 0 where
    pub base_at_end : base ≡ cell_count old
    pub longer : cell_count new ≡ cell_count old + size

module _ {T : Type 0} where
  -- one cell is written
  pub record IsCellWritten (old new : ℕ → Option T) (index : ℕ) (value : T) : Type 0 where
    pub here : new index ≡ Some value
    pub other : (k : ℕ) → k ≢ index → new k ≡ old k

  -- every cell of a block is in use
  abbrev pub IsUsedBlock : (ℕ → Option T) → ℕ → ℕ → Type 0
  IsUsedBlock cells base size = (k : ℕ) → base ≤ k → k < base + size → is_some (cells k) ≡ true

  -- the block was free, and each of its cells has the value now; the others stay
  pub record IsTaken (old new : ℕ → Option T) (base size : ℕ) (value : T) : Type 0 where
    pub fresh : (k : ℕ) → base ≤ k → k < base + size → old k ≡ None
    pub filled : IsFilled old new base size (Some value)

  -- a block of `size` cells at `base` has moved to `base'`, with a value in the gap at `place`; the old cells are free
  pub record IsGrown (old new : ℕ → Option T) (base size place : ℕ) (value : T) (base' : ℕ) : Type 0 where
    pub fresh : (k : ℕ) → base' ≤ k → k < base' + (size + 1) → old k ≡ None
    pub low : (t : ℕ) → t < place → new (base' + t) ≡ old (base + t)
    pub gap : new (base' + place) ≡ Some value
    pub high : (t : ℕ) → place ≤ t → t < size → new (base' + (t + 1)) ≡ old (base + t)
    pub freed : (k : ℕ) → base ≤ k → k < base + size → new k ≡ None
    pub other : (k : ℕ) → (base ≤ k → k < base + size → ⊥) → (base' ≤ k → k < base' + (size + 1) → ⊥) → new k ≡ old k
