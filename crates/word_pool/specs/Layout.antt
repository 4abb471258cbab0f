-- How the words of a pool are laid out in blocks, and how the free blocks of each size are linked.
use Rattle.std.specs.Prelude.{ℕ, ◌≡◌, ◌+◌, ◌*◌, ◌%◌, ◌^◌, ◌<◌, ◌≤◌, ◌==◌, if◌then◌else◌, List, [], ◌∷◌, slice_index_or}

-- the word at a place; 0 where there is none
abbrev pub entry : List ℕ → ℕ → ℕ
entry words k = slice_index_or words k 0

-- the size that was noted last for a place; 0 where no block in use begins
unfoldable pub noted : List ℕ → ℕ → ℕ
noted [] b = 0
noted (p ∷ []) b = 0
noted (p ∷ size ∷ rest) b = if p == b then size else noted rest b

-- the size of the free blocks of a list
abbrev pub free_size : ℕ → ℕ
free_size i = 4 * 2 ^ i

-- Words are in blocks that lie apart, each at a multiple of its size, in use (`used` is their size) or free. The list `i` links the `many i` free blocks of its size by their first words: they are numbered from the end, and the number 0 is the end. The block of four zeros at 0 is always in use.
pub record IsLaid (words : ℕ → ℕ) (count : ℕ) (first many used : ℕ → ℕ) : Type 0 where
  pub size : ℕ → ℕ
  pub within : (b : ℕ) → 0 < size b → b + size b ≤ count
  pub aligned : (b : ℕ) → 0 < size b → b % size b ≡ 0
  pub apart : (a b : ℕ) → 0 < size a → 0 < size b → a ≤ b → b < a + size a → a ≡ b
  pub in_use : (b : ℕ) → 0 < used b → size b ≡ used b
  pub place : ℕ → ℕ → ℕ
  pub head : (i : ℕ) → i < 6 → first i ≡ place i (many i)
  pub last : (i : ℕ) → place i 0 ≡ 0
  pub link : (i h : ℕ) → h < many i → words (place i (h + 1)) ≡ place i h
  pub free : (i h : ℕ) → h < many i → size (place i (h + 1)) ≡ free_size i
  pub unused : (i h : ℕ) → h < many i → used (place i (h + 1)) ≡ 0
  pub distinct : (i j g h : ℕ) → g < many i → h < many j → place i (g + 1) ≡ place j (h + 1) → (i ≡ j) × (g ≡ h)
  pub zero_used : used 0 ≡ 4
  pub zeros : (k : ℕ) → k < 4 → words k ≡ 0
