-- A look-up on its way down.
use Rattle.std.specs.Prelude.{ℕ, List, ◌≡◌, ◌⊎◌, ◌+◌, ◌-◌, ◌*◌, ◌<◌, ◌≤◌, min, length, slice_index, slice_index_or}
use Rattle.array_bitmap.specs.{Bits.depth_of, Words.found, Tree.Cells, Tree.block_at, Tree.word_at, declared.blocks.Head.Head, declared.lanes.Lane.Lane}
use Rattle.bitmaps.specs.Greatest.{GreatestBelow}

-- the look-up at an index, and the bitmaps
abbrev pub lane_at : List Lane → ℕ → Lane
lane_at lanes k = slice_index_or lanes k (record { at = 0; addr = 0; block = 0; best = 0 })

-- the bitmaps of a lane, by number
abbrev pub head_at : List Head → ℕ → Head
head_at heads k = slice_index_or heads k (record { rows = 0; kids = 0 })

-- the blocks above a level have been read: the look-up stands at the block there, or at 0 where there is none
pub record IsLane (c : Cells) (level : ℕ) (lane : Lane) : Type 0 where
  pub at : lane.block ≡ block_at c (lane.addr * 4) (level - c.first)
  pub best : GreatestBelow (word_at c (lane.addr * 4)) (min (depth_of level + 1) 33) (found lane.best)

-- the block at a level has been read too: the bit says whether there is a next one on the path, at which the look-up then stands
pub record IsStep (c : Cells) (level : ℕ) (lane : Lane) (goes_on : ℕ) : Type 0 where
  pub bit : goes_on < 2
  pub best : GreatestBelow (word_at c (lane.addr * 4)) (min (depth_of (level + 1) + 1) 33) (found lane.best)
  pub on : goes_on ≡ 1 → lane.block ≡ block_at c (lane.addr * 4) (level + 1 - c.first)
  pub end : goes_on ≡ 0 → block_at c (lane.addr * 4) (level + 1 - c.first) ≡ 0

-- the first so many look-ups are at a level, each for the address of its index
pub record AreLanes (c : Cells) (level : ℕ) (addrs : List ℕ) (lanes : List Lane) (live : ℕ) : Type 0 where
  pub within : live ≤ length lanes
  pub lane : (k : ℕ) → k < live → IsLane c level (lane_at lanes k)
  pub at : (k : ℕ) → k < live → (lane_at lanes k).at < length addrs
  pub addr : (k : ℕ) → k < live → (lane_at lanes k).addr ≡ slice_index addrs (lane_at lanes k).at

-- the word is that of the longest row of the address
abbrev pub IsLongestWord : Cells → ℕ → ℕ → Type 0
IsLongestWord c addr word = GreatestBelow (word_at c (addr * 4)) 33 (found word)

-- the address at an index has its word, or a look-up is on its way for it, which no level after the last one is
abbrev pub IsCared : Cells → ℕ → List ℕ → List Lane → ℕ → List ℕ → ℕ → Type 0
IsCared c level addrs lanes live words i = IsLongestWord c (slice_index addrs i) (slice_index words i) ⊎ ((level ≤ 5) × ((k : ℕ) × (k < live) × ((lane_at lanes k).at ≡ i)))
