-- What a pool holds: its blocks in use, its free blocks, and its room.
use Rattle.std.specs.Prelude.{ℕ, zero, suc, ◌≡◌, ◌≢◌, ◌+◌, ◌-◌, ◌*◌, ◌/◌, ◌^◌, ◌<◌, ◌≤◌, ◌==◌, if◌then◌else◌, min, vec_capacity, vec_len, List, [], ◌∷◌, Option, Some, None, IsTrue}
use Rattle.word_pool.specs.{Heap.Heap, Heap.SameBlocks, Heap.is_size, Layout.entry, Layout.noted, declared.pool.Pool.Pool}

-- the words from a place on
unfoldable pub read : (ℕ → ℕ) → ℕ → ℕ → List ℕ
read words b zero = []
read words b (suc n) = words b ∷ read words (b + 1) n

-- a block of a size; none where the size is 0
unfoldable pub sized_block : (ℕ → ℕ) → ℕ → ℕ → Option (List ℕ)
sized_block words b zero = None
sized_block words b (suc n) = Some (read words b (suc n))

-- which list has the free blocks of a size
abbrev pub list_of_size : ℕ → ℕ
list_of_size n = if n == 4 then 0 else (if n == 8 then 1 else (if n == 16 then 2 else (if n == 32 then 3 else (if n == 64 then 4 else 5))))

module _ {A : Type 0} where
  -- the words of the block in use that begins at a place, or none
  unfoldable pub blocks : Pool A → Heap
  blocks pool b = sized_block (entry pool.words.items) b (noted pool.used.numbers b)

  -- how many free blocks of a size there are
  unfoldable pub spare : Pool A → ℕ → ℕ
  spare pool size = entry pool.spare.numbers (list_of_size size)

  -- how many words they have
  abbrev pub free_words : Pool A → ℕ
  free_words pool = 4 * spare pool 4 + 8 * spare pool 8 + 16 * spare pool 16 + 32 * spare pool 32 + 64 * spare pool 64 + 128 * spare pool 128

  -- a free block has at least a size
  abbrev pub HasSpare : Pool A → ℕ → Type 0
  HasSpare pool size = (s : ℕ) × IsTrue (is_size s) × (size ≤ s) × (0 < spare pool s)

  -- how many words there are, in blocks in use and free
  abbrev pub word_count : Pool A → ℕ
  word_count pool = vec_len pool.words

  -- how many words there is memory for, where a pool has at most 2^32
  abbrev pub capacity : Pool A → ℕ
  capacity pool = min (vec_capacity pool.words) (2 ^ 32)

  -- how many groups of 128 words can be added without memory
  abbrev pub groups_left : Pool A → ℕ
  groups_left pool = (capacity pool - word_count pool) / 128

  -- no word was added
  pub record AddsNoWord (old new : Pool A) : Type 0 where
    pub count : word_count new ≡ word_count old
    pub same_room : groups_left new ≡ groups_left old

  -- the free blocks stay, but those of one size
  abbrev pub SameSpare : Pool A → Pool A → ℕ → Type 0
  SameSpare old new size = (s : ℕ) → IsTrue (is_size s) → s ≢ size → spare new s ≡ spare old s

  -- blocks in use and free blocks stay, and there is no less room
  pub record KeepsBlocks (old new : Pool A) : Type 0 where
    pub same : SameBlocks (blocks old) (blocks new)
    pub free : (s : ℕ) → spare new s ≡ spare old s
    pub count : word_count new ≡ word_count old
    pub no_less : groups_left old ≤ groups_left new

  -- another pool has the same blocks in use and the same free blocks
  pub record HasSameBlocks (one other : Pool A) : Type 0 where
    pub same : SameBlocks (blocks one) (blocks other)
    pub free : (s : ℕ) → spare other s ≡ spare one s
    pub count : word_count other ≡ word_count one
