-- The definitions, worked on small examples.
use Rattle.std.proofs.Common.{ℕ, ◌≡◌, ◌+◌, ◌*◌, ◌^◌, ◌==◌, List, [], ◌∷◌, length, cond, Some, None, refl}
use Rattle.network_model.specs.declared.route.Entry.TheVariants.{Local, Via, Unreachable}
use Rattle.std.specs.Int.RustNames.{count_ones}
use Rattle.array_bitmap.specs.Bits.{five_bits, path_start, row_bit, level_of, more_of, width}
use Rattle.array_bitmap.specs.Words.{nothing, len_of, row_word, word_entry, shown, found}
use Rattle.array_bitmap.specs.Blocks.{used_words, size_for, row_in, kid_in}
use Rattle.array_bitmap.specs.Tree.{Cells, block_at, short_word, long_word, word_at, row_at, named}

-- ---- words

-- a row of length 24 to the neighbour at port 3, in session 7
a_word : row_word 24 (Via 3 7) ≡ 0b0110_0001_0000_0011_0000_0000_0000_0111
a_word = refl

its_entry : word_entry (row_word 24 (Via 3 7)) ≡ Via 3 7
its_entry = refl

its_length : len_of (row_word 24 (Via 3 7)) ≡ 24
its_length = refl

a_host_word : word_entry (row_word 32 (Via 255 65535)) ≡ Via 255 65535
a_host_word = refl

a_word_nowhere : word_entry (row_word 0 Unreachable) ≡ Unreachable
a_word_nowhere = refl

no_word : shown nothing ≡ None
no_word = refl

nothing_found : found nothing ≡ None
nothing_found = refl

-- the default row to the router itself is the word 0, and it is a row
default_found : found 0 ≡ Some (0, 0)
default_found = refl

-- ---- bits: the path of 10.0.0.0 is 0000 10100 00000 ..
abbrev ten : ℕ
ten = 10 * 2 ^ 24 * 4

four_bits : path_start ten 4 ≡ 0
four_bits = refl

next_five : five_bits ten 0 ≡ 0b10100
next_five = refl

five_after : five_bits ten 1 ≡ 0
five_after = refl

-- the last three bits of 0.0.0.5 are 101, and two zeros stand after them
last_five : five_bits (5 * 4) 5 ≡ 0b10100
last_five = refl

-- 10.0.0.0/8 ends four bits into the block after 4 bits: it is number 1010 of the four bits' sixteen, after the 2 + 4 + 8 of fewer bits
bit_of_eight : row_bit (five_bits ten (level_of 8)) (more_of 8) ≡ 2 + 4 + 8 + 0b1010
bit_of_eight = refl

level_of_32 : level_of 32 ≡ 5
level_of_32 = refl

more_of_32 : more_of 32 ≡ 2
more_of_32 = refl

width_of_4 : width 4 ≡ 5
width_of_4 = refl

width_of_5 : width 5 ≡ 3
width_of_5 = refl

-- ---- a block with the rows of bits 0 and 3, which are those of 0 and of 01, and a kid by 01000
abbrev a_block : List ℕ
a_block = (2 ^ 0 + 2 ^ 3) ∷ 0 ∷ (2 ^ 8) ∷ row_word 5 Local ∷ row_word 6 (Via 3 7) ∷ 4 ∷ 0 ∷ 0 ∷ []

its_size : size_for (used_words a_block) ≡ length a_block
unfolding size_for count_ones
its_size = refl

first_row : row_in a_block 0 ≡ Some (row_word 5 Local)
unfolding row_in count_ones
first_row = refl

second_row : row_in a_block 3 ≡ Some (row_word 6 (Via 3 7))
unfolding row_in count_ones
second_row = refl

not_a_row : row_in a_block 2 ≡ None
unfolding row_in
not_a_row = refl

its_kid : kid_in a_block 0b01000 ≡ 4
unfolding kid_in count_ones
its_kid = refl

not_a_kid : kid_in a_block 0 ≡ 0
unfolding kid_in
not_a_kid = refl

-- ---- cells: a default row; the block above at 8, for addresses that begin with 0000; and its kid at 4, with the row of 4.0.0.0/10
abbrev a_kid : List ℕ
a_kid = 1 ∷ 0 ∷ 0 ∷ row_word 10 Unreachable ∷ []

abbrev cells : Cells
cells = record {
  first = 0;
  shorts = λ k. cond (k == 1) (row_word 0 Local) nothing;
  bests = λ x. row_word 0 Local;
  tops = λ x. cond (x == 0) 8 0;
  heap = λ p. cond (p == 8) (Some a_block) (cond (p == 4) (Some a_kid) None);
}

-- the path of 4.0.0.0 is 0000 01000 00000 ..
abbrev four : ℕ
four = 4 * 2 ^ 24 * 4

at_first : block_at cells four 0 ≡ 8
unfolding block_at
at_first = refl

at_next : block_at cells four 1 ≡ 4
unfolding block_at kid_in count_ones
at_next = refl

at_end : block_at cells four 2 ≡ 0
unfolding block_at kid_in count_ones
at_end = refl

default_row : row_at cells four 0 ≡ Some Local
unfolding word_at short_word
default_row = refl

row_of_five : row_at cells four 5 ≡ Some Local
unfolding word_at long_word block_at kid_in row_in count_ones
row_of_five = refl

row_of_six : row_at cells four 6 ≡ Some (Via 3 7)
unfolding word_at long_word block_at kid_in row_in count_ones
row_of_six = refl

row_of_ten : row_at cells four 10 ≡ Some Unreachable
unfolding word_at long_word block_at kid_in row_in count_ones
row_of_ten = refl

no_row_of_nine : row_at cells four 9 ≡ None
unfolding word_at long_word block_at kid_in row_in count_ones
no_row_of_nine = refl

no_row_of_24 : row_at cells four 24 ≡ None
unfolding word_at long_word block_at kid_in row_in count_ones
no_row_of_24 = refl

name_in_array : named cells 0 0 ≡ 8
name_in_array = refl

name_in_block : named cells 8 0b01000 ≡ 4
unfolding kid_in count_ones
name_in_block = refl
