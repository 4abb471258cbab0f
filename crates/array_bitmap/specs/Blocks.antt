-- What the words of a block mean:
--   [rows, low half] [rows, high half] [kids] [a word for each row, in the order of the rows' bits] [a place for each kid, in the order of the kids' bits]
-- Bit 2^l - 2 + x of the rows is that of l further bits of value x, for l = 1 to 5; bit x of the kids is that of five further bits of value x. A second word of each row would
-- stand behind the places of the kids, in the order of the rows' bits, and then no word of today would move.
use Rattle.std.specs.Prelude.{ℕ, ◌≡◌, ◌≢◌, ◌+◌, ◌*◌, ◌^◌, ◌<◌, List, length, slice_index, Option, Some, None, cond, eqb, nat_le, count_ones}
use Rattle.std.specs.Int.{bit_at}
use Rattle.bitmaps.specs.Bits.{rank}
use Rattle.array_bitmap.specs.declared.blocks.Head.{Head}

-- the rows' bits, and the kids'
abbrev pub row_map : List ℕ → ℕ
row_map ws = slice_index ws 0 + 2 ^ 32 * slice_index ws 1

-- the bitmap of the children of a block: its third word
abbrev pub kid_map : List ℕ → ℕ
kid_map ws = slice_index ws 2

-- where the word of a row stands, and the place of a kid
abbrev pub row_index : List ℕ → ℕ → ℕ
row_index ws bit = 3 + rank (row_map ws) bit

-- where the place of a child stands in a block: behind its bitmaps and its rows
abbrev pub kid_index : List ℕ → ℕ → ℕ
kid_index ws five = 3 + count_ones (row_map ws) + rank (kid_map ws) five

-- how many words are in use
abbrev pub used_words : List ℕ → ℕ
used_words ws = 3 + count_ones (row_map ws) + count_ones (kid_map ws)

-- the least of the sizes 4, 8, 16, 32, 64 and 128 that holds so many words
unfoldable pub size_for : ℕ → ℕ
size_for n = cond (nat_le n 4) 4 (cond (nat_le n 8) 8 (cond (nat_le n 16) 16 (cond (nat_le n 32) 32 (cond (nat_le n 64) 64 128))))

-- the word of the row at a bit, if the bit is set
unfoldable pub row_in : List ℕ → ℕ → Option ℕ
row_in ws bit = cond (eqb (bit_at (row_map ws) bit) 1) (Some (slice_index ws (row_index ws bit))) None

-- the place of the kid at five bits; 0 where the bit is not set
unfoldable pub kid_in : List ℕ → ℕ → ℕ
kid_in ws five = cond (eqb (bit_at (kid_map ws) five) 1) (slice_index ws (kid_index ws five)) 0

-- the word of the greatest bit, if there is one, else the word that was found above
abbrev pub word_after : List ℕ → ℕ → Option ℕ → ℕ
word_after ws best None = best
word_after ws best (Some bit) = slice_index ws (row_index ws bit)

-- a block is as large as its words want, and each of its kids has a place
pub record IsBlock (ws : List ℕ) : Type 0 where
  pub size : length ws ≡ size_for (used_words ws)
  pub few_rows : row_map ws < 2 ^ 62
  pub few_kids : kid_map ws < 2 ^ 32
  pub kids_there : (five : ℕ) → bit_at (kid_map ws) five ≡ 1 → kid_in ws five ≢ 0

-- the bitmaps of a block were read
pub record IsHead (ws : List ℕ) (head : Head) : Type 0 where
  pub rows : head.rows ≡ row_map ws
  pub kids : head.kids ≡ kid_map ws
