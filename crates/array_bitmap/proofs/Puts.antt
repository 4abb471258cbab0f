-- A row or a kid is put into a block of a pool.
use Rattle.std.proofs.Common.{ℕ, ◌≡◌, ◌≢◌, inl, inr, ◌+◌, ◌*◌, ◌/◌, ◌%◌, ◌^◌, ◌<◌, ◌≤◌, List, slice_index, Some, true, cond, is_some, ◌==◌, arith, refl, sym, ap, subst, ◌∙◌}
use Rattle.std.specs.{Int.bit_at, Int.RustNames.count_ones}
use Rattle.std.proofs.{lemmas.Bool.cases_eq, lemmas.Bool.false≢true, lemmas.Nat.Bits.bit_at-zero}
use Rattle.word_pool.specs.Heap.{Heap, size_of, IsWordWritten, IsAllocated, SameOthers}
use Rattle.bitmaps.proofs.Ranks.{ones_of_zero, rank_lt}
use Rattle.array_bitmap.specs.Blocks.{row_map, kid_map, row_index, kid_index, size_for, used_words, row_in, kid_in, IsBlock}
use Rattle.array_bitmap.specs.Tree.{Cells, words_in_block, words_at, named}
use Rattle.array_bitmap.specs.Changes.{PutsWord, PutsRow, PutsKid, TakesBlank, ChangesKid, IsReplaced, IsReworded, IsInserted, WritesName}
use Rattle.array_bitmap.proofs.BlockWords.{row_inserted, row_inserted_block, kid_inserted, kid_inserted_block, row_replaced, row_replaced_block, kid_replaced, kid_replaced_block}
use Rattle.array_bitmap.proofs.OnePath.{named-kid}
use Rattle.array_bitmap.proofs.PoolWords.{word_listed, size_listed, there, is_words, written_here, written_other, written_size, size_least, block_holds, WritesHead, put_reworded, put_inserted}

-- one of the first words is written
pub head_written : (old new : Heap) (place i w : ℕ) → i < 3 → IsWordWritten old new place i w → WritesHead old new place
head_written old new place i w l wr = record {
  others = wr.others;
  size = written_size old new place i w wr;
  words = λ k h. written_other old new place i w wr k (λ e. omega (arith, e, h, l));
}

pub head_twice : (old mid new : Heap) (place : ℕ) → WritesHead old mid place → WritesHead mid new place → WritesHead old new place
head_twice old mid new place a b = record {
  others = λ p n. b.others p n ∙ a.others p n;
  size = b.size ∙ a.size;
  words = λ k h. b.words k h ∙ a.words k h;
}

-- a word of a block is written over
pub replaced : (old new : Heap) (block at word : ℕ) → at < size_of (old block) → IsWordWritten old new block at word → IsReplaced (words_in_block (old block)) (words_in_block (new block)) at word
replaced old new block at word l wr = record {
  here = sym (word_listed (new block) at) ∙ written_here old new block at word wr l;
  others = λ i n. sym (word_listed (new block) i) ∙ written_other old new block at word wr i n ∙ word_listed (old block) i;
  size = sym (size_listed (new block)) ∙ written_size old new block at word wr ∙ size_listed (old block);
}

-- a block where it stood
pub stays_reworded : (old new : Heap) (block : ℕ) → block ≢ 0 → is_some (new block) ≡ true → SameOthers old new block → IsReworded old new block block (words_in_block (new block))
stays_reworded old new block some used others = record {
  here = is_words (new block) used;
  somewhere = some;
  fresh = λ n. absurd (n refl);
  gone = λ n. absurd (n refl);
  others = λ p n m. others p n;
}

-- the word of a row is written over
pub row_over : (old new : Heap) (block bit index word : ℕ) → block ≢ 0 → IsBlock (words_in_block (old block)) → index ≡ row_index (words_in_block (old block)) bit
    → bit_at (row_map (words_in_block (old block))) bit ≡ 1 → IsWordWritten old new block index word → PutsRow old new block block bit word
row_over old new block bit index word some b e set wr =
    let inside : index < size_of (old block) = omega (arith, e, rank_lt (row_map (words_in_block (old block))) bit set, block_holds old block b) in
    let size : size_of (new block) ≡ size_of (old block) = written_size old new block index word wr in
    let put = replaced old new block index word inside wr in
    let behind : 3 ≤ index = omega (arith, e) in
    record {
      reworded = stays_reworded old new block some (there (new block) (omega (arith, size, inside))) wr.others;
      changes = row_replaced (words_in_block (old block)) (words_in_block (new block)) index word put behind bit set e;
      is_block = row_replaced_block (words_in_block (old block)) (words_in_block (new block)) index word put behind bit set e b;
    }

-- the halves of the rows' bits
halves : (rows lo hi : ℕ) → lo ≡ rows % 2 ^ 32 → hi ≡ rows / 2 ^ 32 → lo + 2 ^ 32 * hi ≡ rows
halves rows lo hi a b = omega (arith, a, b)

module _ (old mid low new : Heap) (block place bit word used index rows lo hi : ℕ) (b : IsBlock (words_in_block (old block))) (small : bit < 62)
    (clear : bit_at (row_map (words_in_block (old block))) bit ≡ 0) (u : used ≡ used_words (words_in_block (old block))) (few : used ≤ 96) (i : index ≡ row_index (words_in_block (old block)) bit)
    (r : rows ≡ row_map (words_in_block (old block)) + 2 ^ bit) (l : lo ≡ rows % 2 ^ 32) (h : hi ≡ rows / 2 ^ 32)
    (put : PutsWord old mid block place used index word) (wr0 : IsWordWritten mid low place 0 lo) (wr1 : IsWordWritten low new place 1 hi) where
  row_head : WritesHead mid new place
  row_head = head_twice mid low new place (head_written mid low place 0 lo (omega arith) wr0) (head_written low new place 1 hi (omega arith) wr1)

  mid_size : 3 < size_of (mid place)
  mid_size = omega (arith, put.size, size_least (used + 1) (omega (arith, few)))

  rows_written : row_map (words_in_block (new place)) ≡ row_map (words_in_block (old block)) + 2 ^ bit
  rows_written =
      let zeroth : slice_index (words_in_block (new place)) 0 ≡ lo =
      sym (word_listed (new place) 0) ∙ written_other low new place 1 hi wr1 0 (omega arith) ∙ written_here mid low place 0 lo wr0 (omega (arith, mid_size)) in
      let first : slice_index (words_in_block (new place)) 1 ≡ hi =
      sym (word_listed (new place) 1) ∙ written_here low new place 1 hi wr1 (omega (arith, mid_size, written_size mid low place 0 lo wr0)) in
      omega (arith, zeroth, first, halves rows lo hi l h, r)

  kids_left : kid_map (words_in_block (new place)) ≡ kid_map (words_in_block (old block))
  kids_left =
      sym (word_listed (new place) 2) ∙ written_other low new place 1 hi wr1 2 (omega arith) ∙ written_other mid low place 0 lo wr0 2 (omega arith)
      ∙ put.low 2 (omega (arith, i)) ∙ word_listed (old block) 2

  pub row_new : PutsRow old new block place bit word
  row_new =
      let inserted = subst (λ k. IsInserted (words_in_block (old block)) (words_in_block (new place)) k word) i (put_inserted old mid new block place used index word put row_head (omega (arith, few)) u (omega (arith, i))) in
      record {
        reworded = put_reworded old mid new block place used index word put row_head (omega (arith, few)) u;
        changes = row_inserted (words_in_block (old block)) (words_in_block (new place)) bit word clear rows_written kids_left inserted;
        is_block = row_inserted_block (words_in_block (old block)) (words_in_block (new place)) bit word clear rows_written kids_left inserted small b;
      }

module _ (old mid new : Heap) (block place five kid used index kids : ℕ) (b : IsBlock (words_in_block (old block))) (small : five < 32) (some : kid ≢ 0)
    (clear : bit_at (kid_map (words_in_block (old block))) five ≡ 0) (u : used ≡ used_words (words_in_block (old block))) (few : used ≤ 96) (i : index ≡ kid_index (words_in_block (old block)) five)
    (k : kids ≡ kid_map (words_in_block (old block)) + 2 ^ five)
    (put : PutsWord old mid block place used index kid) (wr : IsWordWritten mid new place 2 kids) where
  kid_head : WritesHead mid new place
  kid_head = head_written mid new place 2 kids (omega arith) wr

  kids_written : kid_map (words_in_block (new place)) ≡ kid_map (words_in_block (old block)) + 2 ^ five
  kids_written =
      sym (word_listed (new place) 2) ∙ written_here mid new place 2 kids wr (omega (arith, put.size, size_least (used + 1) (omega (arith, few)))) ∙ k

  rows_left : row_map (words_in_block (new place)) ≡ row_map (words_in_block (old block))
  rows_left =
      let zeroth : slice_index (words_in_block (new place)) 0 ≡ slice_index (words_in_block (old block)) 0 =
      sym (word_listed (new place) 0) ∙ written_other mid new place 2 kids wr 0 (omega arith) ∙ put.low 0 (omega (arith, i)) ∙ word_listed (old block) 0 in
      let first : slice_index (words_in_block (new place)) 1 ≡ slice_index (words_in_block (old block)) 1 =
      sym (word_listed (new place) 1) ∙ written_other mid new place 2 kids wr 1 (omega arith) ∙ put.low 1 (omega (arith, i)) ∙ word_listed (old block) 1 in
      omega (arith, zeroth, first)

  pub kid_new : PutsKid old new block place five kid
  kid_new =
      let inserted = subst (λ n. IsInserted (words_in_block (old block)) (words_in_block (new place)) n kid) i (put_inserted old mid new block place used index kid put kid_head (omega (arith, few)) u (omega (arith, i))) in
      record {
        reworded = put_reworded old mid new block place used index kid put kid_head (omega (arith, few)) u;
        changes = kid_inserted (words_in_block (old block)) (words_in_block (new place)) five kid clear rows_left kids_written inserted;
        is_block = kid_inserted_block (words_in_block (old block)) (words_in_block (new place)) five kid clear rows_left kids_written inserted small some b;
      }

-- three words want the least size
pub four : 4 ≡ size_for 3
unfolding size_for
four = refl

-- a block is taken, and its bitmaps are cleared
pub blank_taken : (old mid h0 h1 new : Heap) (place : ℕ) → IsAllocated old mid place 4 → IsWordWritten mid h0 place 0 0 → IsWordWritten h0 h1 place 1 0 → IsWordWritten h1 new place 2 0 → TakesBlank old new place
blank_taken old mid h0 h1 new place t a b c =
    let s0 = written_size mid h0 place 0 0 a in
    let s1 = written_size h0 h1 place 1 0 b in
    let s2 = written_size h1 new place 2 0 c in
    let size : size_of (new place) ≡ 4 = s2 ∙ s1 ∙ s0 ∙ t.sized in
    let w0 : slice_index (words_in_block (new place)) 0 ≡ 0 =
    sym (word_listed (new place) 0) ∙ written_other h1 new place 2 0 c 0 (omega arith) ∙ written_other h0 h1 place 1 0 b 0 (omega arith) ∙ written_here mid h0 place 0 0 a (omega (arith, t.sized)) in
    let w1 : slice_index (words_in_block (new place)) 1 ≡ 0 =
    sym (word_listed (new place) 1) ∙ written_other h1 new place 2 0 c 1 (omega arith) ∙ written_here h0 h1 place 1 0 b (omega (arith, t.sized, s0)) in
    let w2 : kid_map (words_in_block (new place)) ≡ 0 =
    sym (word_listed (new place) 2) ∙ written_here h1 new place 2 0 c (omega (arith, t.sized, s0, s1)) in
    let rows : row_map (words_in_block (new place)) ≡ 0 = omega (arith, w0, w1) in
    let used : used_words (words_in_block (new place)) ≡ 3 = omega (arith, ap count_ones rows, ap count_ones w2, ones_of_zero) in
    record {
      somewhere = t.not_zero;
      fresh = t.fresh;
      others = λ p n. c.others p n ∙ b.others p n ∙ a.others p n ∙ t.others p n;
      used = there (new place) (omega (arith, size));
      size = size;
      no_rows = rows;
      no_kids = w2;
      is_block = record {
        size = sym (size_listed (new place)) ∙ size ∙ four ∙ ap size_for (sym used);
        few_rows = omega (arith, rows);
        few_kids = omega (arith, w2);
        kids_there = λ v h e. let z : bit_at 0 v ≡ 0 = bit_at-zero v in omega (arith, ap (λ n. bit_at n v) w2, z, h);
      };
    }

-- a block that was in use is not the one that was taken
pub not_taken : (old new : Heap) (place block : ℕ) → TakesBlank old new place → is_some (old block) ≡ true → block ≢ place
not_taken old new place block t u e = false≢true (sym (ap is_some t.fresh) ∙ ap (λ p. is_some (old p)) (sym e) ∙ u)

-- ---- the place of a block is written at its name, in another block
module _ (c : Cells) (heap2 : Heap) (holder index at place : ℕ) (some : holder ≢ 0) (real : place ≢ 0) (b : IsBlock (words_at c holder))
    (set : bit_at (kid_map (words_at c holder)) index ≡ 1) (e : at ≡ kid_index (words_at c holder) index) (inside : at < size_of (c.heap holder)) (wr : IsWordWritten c.heap heap2 holder at place) where
  abbrev n2 : Cells
  n2 = record c { heap = heap2 }

  put : IsReplaced (words_at c holder) (words_in_block (heap2 holder)) at place
  put = replaced c.heap heap2 holder at place inside wr

  behind : 3 ≤ at
  behind = omega (arith, e)

  changes : ChangesKid (words_at c holder) (words_in_block (heap2 holder)) index place
  changes = kid_replaced (words_at c holder) (words_in_block (heap2 holder)) at place put behind index set e

  size : size_of (heap2 holder) ≡ size_of (c.heap holder)
  size = written_size c.heap heap2 holder at place wr

  others : (q m : ℕ) → (q ≡ holder → m ≡ index → ⊥) → named n2 q m ≡ named c q m
  others q m out = elim (cases_eq q holder) [
    | inl same ↦
        ap (λ x. named n2 x m) same ∙ named-kid n2 holder m some ∙ changes.others m (λ f. out same f) ∙ sym (named-kid c holder m some) ∙ ap (λ x. named c x m) (sym same)
    | inr n ↦ ap (λ o. cond (q == 0) (c.tops m) (kid_in (words_in_block o) m)) (wr.others q n)
  ]

  rows : (q bit : ℕ) → row_in (words_at n2 q) bit ≡ row_in (words_at c q) bit
  rows q bit = elim (cases_eq q holder) [
    | inl same ↦ ap (λ x. row_in (words_at n2 x) bit) same ∙ changes.rows bit ∙ ap (λ x. row_in (words_at c x) bit) (sym same)
    | inr n ↦ ap (λ o. row_in (words_in_block o) bit) (wr.others q n)
  ]

  used : (q : ℕ) → is_some (heap2 q) ≡ is_some (c.heap q)
  used q = elim (cases_eq q holder) [
    | inl same ↦
        ap (λ x. is_some (heap2 x)) same ∙ there (heap2 holder) (omega (arith, size, inside)) ∙ sym (ap (λ x. is_some (c.heap x)) same ∙ there (c.heap holder) (omega (arith, inside)))
    | inr n ↦ ap is_some (wr.others q n)
  ]

  is_one : (q : ℕ) → ((ws : List ℕ) → c.heap q ≡ Some ws → IsBlock ws) → (ws : List ℕ) → heap2 q ≡ Some ws → IsBlock ws
  is_one q before ws h = elim (cases_eq q holder) [
    | inl same ↦
        let w : words_in_block (heap2 holder) ≡ ws = ap words_in_block (ap heap2 (sym same) ∙ h) in
        subst IsBlock w (kid_replaced_block (words_at c holder) (words_in_block (heap2 holder)) at place put behind index set e real b)
    | inr n ↦ before ws (sym (wr.others q n) ∙ h)
  ]

  pub name_in_block : WritesName c n2 holder index place
  name_in_block = record {
    kept = refl;
    here = named-kid n2 holder index some ∙ changes.here;
    others = others;
    rows = rows;
    used = used;
    blocks = is_one;
    elsewhere = λ q n. wr.others q n;
    zeros = wr.others 0 (λ z. some (sym z));
  }
