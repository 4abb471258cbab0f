-- What the words of an image mean.
use Rattle.std.specs.Prelude.{ℕ, zero, suc, ◌≡◌, ◌≢◌, ◌+◌, ◌-◌, ◌*◌, ◌^◌, ◌<◌, ◌≤◌, ◌==◌, List, [], ◌∷◌, Option, Some, None, true, cond, nat_le, is_some, option_map}
use Rattle.array_bitmap.specs.Bits.{depth_of, five_bits, path_start, row_bit, level_of, more_of}
use Rattle.array_bitmap.specs.Words.{shown, found, word_entry, IsRowWord}
use Rattle.array_bitmap.specs.Blocks.{row_in, kid_in, IsBlock}
use Rattle.bitmaps.specs.Greatest.{GreatestBelow}
use Rattle.network_model.specs.declared.route.Entry.{Entry}
use Rattle.ipv4_prefix.specs.{Prefix.Prefix, Tables.table_rows}

-- The words of an image, as functions. The array goes by the first 4 + 5 * first bits of an address.
-- `shorts` has the word of each prefix of at most so many bits: that of l bits of value x at 2^l + x. A second word of each such row would stand in a function beside it.
-- `bests` has, by the first bits, the word of the longest of those prefixes that covers them; `tops` the place of the block with the longer ones, or 0.
-- `heap` has the words of the block that begins at a place, or none where none begins there. At 0 there is a block of four zeros, which stands for no block.
pub record Cells : Type 0 where
  pub first : ℕ
  pub shorts : ℕ → ℕ
  pub bests : ℕ → ℕ
  pub tops : ℕ → ℕ
  pub heap : ℕ → Option (List ℕ)

-- the words of a block; none where there is no block
abbrev pub words_in_block : Option (List ℕ) → List ℕ
words_in_block None = []
words_in_block (Some ws) = ws

-- the words of the block at a place
abbrev pub words_at : Cells → ℕ → List ℕ
words_at c place = words_in_block (c.heap place)

-- the place of a kid of the block at a place; 0 where there is none
abbrev pub kid_at : Cells → ℕ → ℕ → ℕ
kid_at c place five = kid_in (words_at c place) five

-- the place of the block on a path, so many levels below the first; 0 where there is none
unfoldable pub block_at : Cells → ℕ → ℕ → ℕ
block_at c path zero = c.tops (path_start path (depth_of c.first))
block_at c path (suc steps) = kid_at c (block_at c path steps) (five_bits path (c.first + steps))

-- the word of the prefix of a path's first `len` bits, of a prefix that is short, and of one that ends in a block
unfoldable pub short_word : Cells → ℕ → ℕ → Option ℕ
short_word c path len = shown (c.shorts (2 ^ len + path_start path len))

unfoldable pub long_word : Cells → ℕ → ℕ → Option ℕ
long_word c path len = row_in (words_at c (block_at c path (level_of len - c.first))) (row_bit (five_bits path (level_of len)) (more_of len))

unfoldable pub word_at : Cells → ℕ → ℕ → Option ℕ
word_at c path len = cond (nat_le len (depth_of c.first)) (short_word c path len) (long_word c path len)

-- the entry of the prefix of a path's first `len` bits
abbrev pub row_at : Cells → ℕ → ℕ → Option Entry
row_at c path len = option_map word_entry (word_at c path len)

-- the entry of a prefix's row, if it has one
abbrev pub entry_in : Cells → Prefix → Option Entry
entry_in c p = row_at c (p.addr * 4) p.len

-- the rows, in the order of their prefixes
abbrev pub rows_of_cells : Cells → List (Prefix × Entry)
rows_of_cells c = table_rows (entry_in c)

-- what stands at a name of a block: an index of the array, which is named by 0, or five bits of the block at a place
abbrev pub named : Cells → ℕ → ℕ → ℕ
named c place k = cond (place == 0) (c.tops k) (kid_at c place k)

-- Each name is that of a block, or 0, and no block has two names. The words of rows are such words, and the array has the longest short rows.
pub record IsSoundCells (c : Cells) : Type 0 where
  pub four_sizes : c.first ≤ 3
  pub nowhere : c.heap 0 ≡ Some (0 ∷ 0 ∷ 0 ∷ 0 ∷ [])
  pub blocks_there : (place k : ℕ) → named c place k ≢ 0 → is_some (c.heap (named c place k)) ≡ true
  pub names_apart : (p q k m : ℕ) → named c p k ≢ 0 → named c p k ≡ named c q m → (p ≡ q) × (k ≡ m)
  pub blocks : (place : ℕ) (ws : List ℕ) → c.heap place ≡ Some ws → IsBlock ws
  pub row_words : (path len w : ℕ) → path < 2 ^ 34 → len ≤ 32 → word_at c path len ≡ Some w → IsRowWord len w
  pub longest_shorts : (path : ℕ) → path < 2 ^ 34 → GreatestBelow (word_at c path) (depth_of c.first + 1) (found (c.bests (path_start path (depth_of c.first))))

-- the word of a path's first `len` bits is this now, or gone, and all others stay
pub record SetsWord (old new : ℕ → ℕ → Option ℕ) (path len : ℕ) (word : Option ℕ) : Type 0 where
  pub hit : (q : ℕ) → path_start q len ≡ path_start path len → new q len ≡ word
  pub miss : (q m : ℕ) → q < 2 ^ 34 → m ≤ 32 → (m ≡ len → path_start q m ≡ path_start path m → ⊥) → new q m ≡ old q m
