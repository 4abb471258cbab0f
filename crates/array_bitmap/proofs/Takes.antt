-- A row or a kid is taken out of a block of a pool.
use Rattle.std.proofs.Common.{ℕ, ◌≡◌, ◌+◌, ◌-◌, ◌/◌, ◌%◌, ◌^◌, ◌<◌, ◌≤◌, slice_index, arith, sym, ap, subst, ◌∙◌}
use Rattle.std.specs.Int.{bit_at}
use Rattle.word_pool.specs.Heap.{Heap, size_of, word_of, IsWordWritten}
use Rattle.array_bitmap.specs.Blocks.{row_map, kid_map, row_index, kid_index, size_for, used_words, IsBlock}
use Rattle.array_bitmap.specs.Tree.{words_in_block}
use Rattle.array_bitmap.specs.Changes.{TakesWord, TakesRow, TakesKid, IsRemoved, IsReworded}
use Rattle.array_bitmap.proofs.BlockWords.{row_removed, row_removed_block, kid_removed, kid_removed_block}
use Rattle.array_bitmap.proofs.PoolWords.{word_listed, size_listed, there, written_here, written_other, written_size, size_least, WritesHead, is_words}
use Rattle.array_bitmap.proofs.Puts.{head_written, head_twice}

-- the block has a word less where its bitmaps are written
module _ (old mid new : Heap) (block place used at : ℕ) (taken : TakesWord old mid block place used at) (head : WritesHead mid new place)
    (least : 3 < used) (few : used ≤ 97) (u : used ≡ used_words (words_in_block (old block))) where
  pub taken_size : size_of (new place) ≡ size_for (used - 1)
  taken_size = head.size ∙ taken.size

  pub taken_reworded : IsReworded old new block place (words_in_block (new place))
  taken_reworded = record {
    here = is_words (new place) (there (new place) (omega (arith, taken_size, size_least (used - 1) (omega (arith, few)))));
    somewhere = taken.somewhere;
    fresh = taken.fresh;
    gone = λ n. head.others block (λ e. n (sym e)) ∙ taken.gone n;
    others = λ p n m. head.others p m ∙ taken.others p n m;
  }

  pub taken_removed : 3 ≤ at → IsRemoved (words_in_block (old block)) (words_in_block (new place)) at
  taken_removed behind = record {
    low = λ i h l. as_word i h ∙ taken.low i l ∙ word_listed (old block) i;
    high = λ i h l. as_word i (omega (arith, h, behind)) ∙ taken.high i h (omega (arith, l, u)) ∙ word_listed (old block) (i + 1);
    size = sym (size_listed (new place)) ∙ taken_size ∙ ap (λ n. size_for (n - 1)) u;
  }
    where
      as_word : (i : ℕ) → 3 ≤ i → slice_index (words_in_block (new place)) i ≡ word_of (mid place) i
      as_word i h = sym (word_listed (new place) i) ∙ head.words i h

module _ (old mid low new : Heap) (block place bit used index rows lo hi : ℕ) (b : IsBlock (words_in_block (old block)))
    (clear : bit_at rows bit ≡ 0) (least : 3 < used) (few : used ≤ 97) (u : used ≡ used_words (words_in_block (old block))) (i : index ≡ row_index (words_in_block (old block)) bit)
    (r : row_map (words_in_block (old block)) ≡ rows + 2 ^ bit) (l : lo ≡ rows % 2 ^ 32) (h : hi ≡ rows / 2 ^ 32)
    (taken : TakesWord old mid block place used index) (wr0 : IsWordWritten mid low place 0 lo) (wr1 : IsWordWritten low new place 1 hi) where
  head : WritesHead mid new place
  head = head_twice mid low new place (head_written mid low place 0 lo (omega arith) wr0) (head_written low new place 1 hi (omega arith) wr1)

  mid_size : 3 < size_of (mid place)
  mid_size = omega (arith, taken.size, size_least (used - 1) (omega (arith, few)))

  rows_written : row_map (words_in_block (new place)) ≡ rows
  rows_written =
      let zeroth : slice_index (words_in_block (new place)) 0 ≡ lo =
      sym (word_listed (new place) 0) ∙ written_other low new place 1 hi wr1 0 (omega arith) ∙ written_here mid low place 0 lo wr0 (omega (arith, mid_size)) in
      let first : slice_index (words_in_block (new place)) 1 ≡ hi =
      sym (word_listed (new place) 1) ∙ written_here low new place 1 hi wr1 (omega (arith, mid_size, written_size mid low place 0 lo wr0)) in
      omega (arith, zeroth, first, l, h)

  kids_left : kid_map (words_in_block (new place)) ≡ kid_map (words_in_block (old block))
  kids_left =
      sym (word_listed (new place) 2) ∙ written_other low new place 1 hi wr1 2 (omega arith) ∙ written_other mid low place 0 lo wr0 2 (omega arith)
      ∙ taken.low 2 (omega (arith, i)) ∙ word_listed (old block) 2

  is_clear : bit_at (row_map (words_in_block (new place))) bit ≡ 0
  is_clear = ap (λ n. bit_at n bit) rows_written ∙ clear

  whole : row_map (words_in_block (old block)) ≡ row_map (words_in_block (new place)) + 2 ^ bit
  whole = r ∙ ap (λ n. n + 2 ^ bit) (sym rows_written)

  pub row_taken : TakesRow old new block place bit
  row_taken =
      let out = subst (IsRemoved (words_in_block (old block)) (words_in_block (new place))) i (taken_removed old mid new block place used index taken head least few u (omega (arith, i))) in
      record {
        reworded = taken_reworded old mid new block place used index taken head least few u;
        changes = row_removed (words_in_block (old block)) (words_in_block (new place)) bit is_clear whole kids_left out;
        is_block = row_removed_block (words_in_block (old block)) (words_in_block (new place)) bit is_clear whole kids_left out b;
      }

module _ (old mid new : Heap) (block place five used index kids : ℕ) (b : IsBlock (words_in_block (old block)))
    (clear : bit_at kids five ≡ 0) (least : 3 < used) (few : used ≤ 97) (u : used ≡ used_words (words_in_block (old block))) (i : index ≡ kid_index (words_in_block (old block)) five)
    (k : kid_map (words_in_block (old block)) ≡ kids + 2 ^ five)
    (taken : TakesWord old mid block place used index) (wr : IsWordWritten mid new place 2 kids) where
  head' : WritesHead mid new place
  head' = head_written mid new place 2 kids (omega arith) wr

  kids_written : kid_map (words_in_block (new place)) ≡ kids
  kids_written = sym (word_listed (new place) 2) ∙ written_here mid new place 2 kids wr (omega (arith, taken.size, size_least (used - 1) (omega (arith, few))))

  rows_left : row_map (words_in_block (new place)) ≡ row_map (words_in_block (old block))
  rows_left =
      let zeroth : slice_index (words_in_block (new place)) 0 ≡ slice_index (words_in_block (old block)) 0 =
      sym (word_listed (new place) 0) ∙ written_other mid new place 2 kids wr 0 (omega arith) ∙ taken.low 0 (omega (arith, i)) ∙ word_listed (old block) 0 in
      let first : slice_index (words_in_block (new place)) 1 ≡ slice_index (words_in_block (old block)) 1 =
      sym (word_listed (new place) 1) ∙ written_other mid new place 2 kids wr 1 (omega arith) ∙ taken.low 1 (omega (arith, i)) ∙ word_listed (old block) 1 in
      omega (arith, zeroth, first)

  pub kid_taken : TakesKid old new block place five
  kid_taken =
      let out = subst (IsRemoved (words_in_block (old block)) (words_in_block (new place))) i (taken_removed old mid new block place used index taken head' least few u (omega (arith, i))) in
      let none : bit_at (kid_map (words_in_block (new place))) five ≡ 0 = ap (λ n. bit_at n five) kids_written ∙ clear in
      let whole' : kid_map (words_in_block (old block)) ≡ kid_map (words_in_block (new place)) + 2 ^ five = k ∙ ap (λ n. n + 2 ^ five) (sym kids_written) in
      record {
        reworded = taken_reworded old mid new block place used index taken head' least few u;
        changes = kid_removed (words_in_block (old block)) (words_in_block (new place)) five none rows_left whole' out;
        is_block = kid_removed_block (words_in_block (old block)) (words_in_block (new place)) five none rows_left whole' out b;
      }
