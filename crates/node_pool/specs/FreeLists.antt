-- How the free blocks of each size are linked.
use Rattle.std.specs.Prelude.{ℕ, ◌≡◌, ◌+◌, ◌-◌, ◌<◌, ◌≤◌, List, length, is_some, false, slice_index_or}
use Rattle.node_pool.specs.{declared.cells.Cell.Cell, declared.cells.FreeList.FreeList, Cell.cell_at, Cell.at, Cell.next_free}

-- the list of the blocks of `i + 1` cells; an empty one where there is none
abbrev pub free_list : List FreeList → ℕ → FreeList
free_list lists i = slice_index_or lists i (record { first = 0; count = 0 })

-- how many blocks of `i + 1` cells the list has
abbrev pub count_at : List FreeList → ℕ → ℕ
count_at lists i = (free_list lists i).count

-- a place lies in the block of `i + 1` cells at `base`
abbrev pub InBlock : ℕ → ℕ → ℕ → Type 0
InBlock base i k = (base ≤ k) × (k < base + (i + 1))

-- Each list links as many free blocks of its size as it counts, and no two blocks share a cell. Blocks are numbered from the end of their list.
pub record IsLinked {T : Type 0} (cells : List (Cell T)) (lists : List FreeList) : Type 0 where
  pub base_of : ℕ → ℕ → ℕ
  pub first : (i : ℕ) → 0 < count_at lists i → (free_list lists i).first ≡ base_of i (count_at lists i - 1)
  pub next : (i h : ℕ) → h + 1 < count_at lists i → next_free (cell_at cells (base_of i (h + 1))) ≡ base_of i h
  pub within : (i h : ℕ) → h < count_at lists i → base_of i h + (i + 1) ≤ length cells
  pub free : (i h k : ℕ) → h < count_at lists i → InBlock (base_of i h) i k → is_some (at cells k) ≡ false
  pub apart : (i j g h k : ℕ) → g < count_at lists i → h < count_at lists j → InBlock (base_of i g) i k → InBlock (base_of j h) j k → (i ≡ j) × (g ≡ h)
