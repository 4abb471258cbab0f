-- What the callers of a pool see: from places to the words of the block in use that begins there, or none. Other blocks are other cells of this heap: nothing about overlaps.
use Rattle.std.specs.Prelude.{ℕ, ◌≡◌, ◌≢◌, ◌+◌, ◌%◌, ◌==◌, ◌||◌, Bool, List, [], ◌∷◌, length, take, slice_set, slice_index_or, Option, Some, None}

-- from places to blocks in use
abbrev pub Heap : Type 0
Heap = ℕ → Option (List ℕ)

-- how many words a block has; none where no block in use begins
abbrev pub size_of : Option (List ℕ) → ℕ
size_of None = 0
size_of (Some words) = length words

-- a word of a block; 0 where it has none
abbrev pub word_of : Option (List ℕ) → ℕ → ℕ
word_of None i = 0
word_of (Some words) i = slice_index_or words i 0

-- a block with one word written
abbrev pub with_word : Option (List ℕ) → ℕ → ℕ → Option (List ℕ)
with_word None i word = None
with_word (Some words) i word = Some (slice_set words i word)

-- the first words of a block
abbrev pub shortened : Option (List ℕ) → ℕ → Option (List ℕ)
shortened None count = None
shortened (Some words) count = Some (take count words)

-- one of the sizes of blocks
abbrev pub is_size : ℕ → Bool
is_size n = (n == 4) || (n == 8) || (n == 16) || (n == 32) || (n == 64) || (n == 128)

-- all blocks stay
abbrev pub SameBlocks : Heap → Heap → Type 0
SameBlocks old new = (b : ℕ) → new b ≡ old b

-- all blocks but one stay
abbrev pub SameOthers : Heap → Heap → ℕ → Type 0
SameOthers old new block = (b : ℕ) → b ≢ block → new b ≡ old b

-- there is only the block of four zeros at 0
pub record HasOnlyZeros (heap : Heap) : Type 0 where
  pub zeros : heap 0 ≡ Some (0 ∷ 0 ∷ 0 ∷ 0 ∷ [])
  pub others : (b : ℕ) → b ≢ 0 → heap b ≡ None

-- a block is in use that was not; which words it has, nothing says
pub record IsAllocated (old new : Heap) (block size : ℕ) : Type 0 where
  pub not_zero : block ≢ 0
  pub fresh : old block ≡ None
  pub aligned : block % size ≡ 0
  pub sized : size_of (new block) ≡ size
  pub others : SameOthers old new block

-- a block is in use no more
pub record IsFreed (old new : Heap) (block : ℕ) : Type 0 where
  pub gone : new block ≡ None
  pub others : SameOthers old new block

-- a word of a block is written
pub record IsWordWritten (old new : Heap) (block i word : ℕ) : Type 0 where
  pub here : new block ≡ with_word (old block) i word
  pub others : SameOthers old new block

-- a block keeps its first words
pub record IsShortened (old new : Heap) (block size : ℕ) : Type 0 where
  pub here : new block ≡ shortened (old block) size
  pub others : SameOthers old new block

-- a block keeps its first words, and from there on another block is in use
pub record IsSplit (old new : Heap) (block half : ℕ) : Type 0 where
  pub here : new block ≡ shortened (old block) half
  pub fresh : old (block + half) ≡ None
  pub upper : size_of (new (block + half)) ≡ half
  pub others : (b : ℕ) → b ≢ block → b ≢ block + half → new b ≡ old b
