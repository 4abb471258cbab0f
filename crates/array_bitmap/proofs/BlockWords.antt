-- One word of a block more, or another word in place of one.
use Rattle.std.proofs.Common.{ℕ, ◌≡◌, ◌≢◌, ◌⊎◌, inl, inr, ◌+◌, ◌^◌, ◌<◌, ◌≤◌, List, slice_index, Some, None, count_ones, arith, sym, ap, subst, ◌∙◌}
use Rattle.std.specs.Int.{bit_at}
use Rattle.std.proofs.lemmas.Bool.{cases_eq, cases_order}
use Rattle.bitmaps.specs.Bits.{rank}
use Rattle.array_bitmap.specs.Blocks.{row_map, kid_map, row_index, kid_index, size_for, row_in, kid_in, IsBlock}
use Rattle.array_bitmap.specs.Changes.{ChangesRow, ChangesKid, IsInserted, IsReplaced, IsRemoved}
use Rattle.bitmaps.proofs.Ranks.{rank_lt, rank_le, rank_mono, rank_mono_lt, bit_at-add_same, bit_at-add_other, ones-add, add_lt, rank-add_below, rank-add_above}
use Rattle.array_bitmap.proofs.{Covering.row-set, Covering.row-clear, Walks.kid-set, Walks.kid-clear}

-- two rows are the same where both bits are set and their words are the same, or neither bit is set
pub same_row : (ws ws' : List ℕ) (b : ℕ) → bit_at (row_map ws') b ≡ bit_at (row_map ws) b
    → (bit_at (row_map ws) b ≡ 1 → slice_index ws' (row_index ws' b) ≡ slice_index ws (row_index ws b)) → row_in ws' b ≡ row_in ws b
same_row ws ws' b e f = elim (cases_eq (bit_at (row_map ws) b) 1) [
  | inl h ↦ row-set ws' b (e ∙ h) ∙ ap Some (f h) ∙ sym (row-set ws b h)
  | inr n ↦ row-clear ws' b (λ h. n (sym e ∙ h)) ∙ sym (row-clear ws b n)
]

pub same_kid : (ws ws' : List ℕ) (v : ℕ) → bit_at (kid_map ws') v ≡ bit_at (kid_map ws) v
    → (bit_at (kid_map ws) v ≡ 1 → slice_index ws' (kid_index ws' v) ≡ slice_index ws (kid_index ws v)) → kid_in ws' v ≡ kid_in ws v
same_kid ws ws' v e f = elim (cases_eq (bit_at (kid_map ws) v) 1) [
  | inl h ↦ kid-set ws' v (e ∙ h) ∙ f h ∙ sym (kid-set ws v h)
  | inr n ↦ kid-clear ws' v (λ h. n (sym e ∙ h)) ∙ sym (kid-clear ws v n)
]

-- ---- a row is new
module _ (ws ws' : List ℕ) (bit word : ℕ) (clear : bit_at (row_map ws) bit ≡ 0)
    (rows : row_map ws' ≡ row_map ws + 2 ^ bit) (kids : kid_map ws' ≡ kid_map ws) (put : IsInserted ws ws' (row_index ws bit) word) where
  is_set : bit_at (row_map ws') bit ≡ 1
  is_set = ap (λ n. bit_at n bit) rows ∙ bit_at-add_same (row_map ws) bit clear

  other_bit : (b : ℕ) → b ≢ bit → bit_at (row_map ws') b ≡ bit_at (row_map ws) b
  other_bit b n = ap (λ m. bit_at m b) rows ∙ bit_at-add_other (row_map ws) bit b clear n

  new_row : slice_index ws' (row_index ws' bit) ≡ word
  new_row = ap (λ n. slice_index ws' (3 + rank n bit)) rows ∙ ap (λ r. slice_index ws' (3 + r)) (rank-add_below (row_map ws) bit bit clear (omega arith)) ∙ put.here

  -- the words of the other rows have stayed, or moved up
  other_row : (b : ℕ) → bit_at (row_map ws) b ≡ 1 → (b ≡ bit) ⊎ ((b < bit) ⊎ (bit < b)) → slice_index ws' (row_index ws' b) ≡ slice_index ws (row_index ws b)
  other_row b h (inl e) = absurd (omega (arith, h, ap (bit_at (row_map ws)) e, clear))
  other_row b h (inr (inl l)) =
      ap (λ n. slice_index ws' (3 + rank n b)) rows ∙ ap (λ r. slice_index ws' (3 + r)) (rank-add_below (row_map ws) bit b clear (omega (arith, l)))
      ∙ put.low (row_index ws b) (omega arith) (omega (arith, rank_mono_lt (row_map ws) b bit l h))
  other_row b h (inr (inr l)) =
      let next : 3 + (rank (row_map ws) b + 1) ≡ row_index ws b + 1 = omega arith in
      ap (λ n. slice_index ws' (3 + rank n b)) rows ∙ ap (λ r. slice_index ws' (3 + r)) (rank-add_above (row_map ws) bit b clear l)
      ∙ ap (slice_index ws') next
      ∙ put.high (row_index ws b) (omega (arith, rank_mono (row_map ws) bit b (omega (arith, l)))) (omega (arith, rank_lt (row_map ws) b h))

  -- so have the places of the kids
  kid_moved : (v : ℕ) → bit_at (kid_map ws) v ≡ 1 → slice_index ws' (kid_index ws' v) ≡ slice_index ws (kid_index ws v)
  kid_moved v h =
      let next : kid_index ws' v ≡ kid_index ws v + 1 =
      omega (arith, ap count_ones rows, ones-add (row_map ws) bit clear, ap (λ n. rank n v) kids) in
      ap (slice_index ws') next ∙ put.high (kid_index ws v) (omega (arith, rank_le (row_map ws) bit)) (omega (arith, rank_lt (kid_map ws) v h))

  -- the block has the row now, and else what it had
  pub row_inserted : ChangesRow ws ws' bit (Some word)
  row_inserted = record {
    here = row-set ws' bit is_set ∙ ap Some new_row;
    others = λ b n. same_row ws ws' b (other_bit b n) (λ h. other_row b h (cases_order b bit));
    kids = λ v. same_kid ws ws' v (ap (λ n. bit_at n v) kids) (kid_moved v);
  }

  -- it is as large as its words want
  pub row_inserted_block : bit < 62 → IsBlock ws → IsBlock ws'
  row_inserted_block small b = record {
    size = put.size ∙ ap size_for (omega (arith, ap count_ones rows, ones-add (row_map ws) bit clear, ap count_ones kids));
    few_rows = subst (λ n. n < 2 ^ 62) (sym rows) (add_lt (row_map ws) bit 62 b.few_rows small clear);
    few_kids = subst (λ n. n < 2 ^ 32) (sym kids) b.few_kids;
    kids_there = λ v h e. b.kids_there v (ap (λ n. bit_at n v) (sym kids) ∙ h) (sym (row_inserted.kids v) ∙ e);
  }

-- ---- a kid is new
module _ (ws ws' : List ℕ) (five place : ℕ) (clear : bit_at (kid_map ws) five ≡ 0)
    (rows : row_map ws' ≡ row_map ws) (kids : kid_map ws' ≡ kid_map ws + 2 ^ five) (put : IsInserted ws ws' (kid_index ws five) place) where
  is_set' : bit_at (kid_map ws') five ≡ 1
  is_set' = ap (λ n. bit_at n five) kids ∙ bit_at-add_same (kid_map ws) five clear

  other_bit' : (v : ℕ) → v ≢ five → bit_at (kid_map ws') v ≡ bit_at (kid_map ws) v
  other_bit' v n = ap (λ m. bit_at m v) kids ∙ bit_at-add_other (kid_map ws) five v clear n

  -- where a kid's place stands, but for the rank
  index' : (v r : ℕ) → rank (kid_map ws') v ≡ r → kid_index ws' v ≡ 3 + count_ones (row_map ws) + r
  index' v r e = omega (arith, e, ap count_ones rows)

  new_kid : slice_index ws' (kid_index ws' five) ≡ place
  new_kid =
      ap (slice_index ws') (index' five (rank (kid_map ws) five) (ap (λ n. rank n five) kids ∙ rank-add_below (kid_map ws) five five clear (omega arith))) ∙ put.here

  other_kid : (v : ℕ) → bit_at (kid_map ws) v ≡ 1 → (v ≡ five) ⊎ ((v < five) ⊎ (five < v)) → slice_index ws' (kid_index ws' v) ≡ slice_index ws (kid_index ws v)
  other_kid v h (inl e) = absurd (omega (arith, h, ap (bit_at (kid_map ws)) e, clear))
  other_kid v h (inr (inl l)) =
      ap (slice_index ws') (index' v (rank (kid_map ws) v) (ap (λ n. rank n v) kids ∙ rank-add_below (kid_map ws) five v clear (omega (arith, l))))
      ∙ put.low (kid_index ws v) (omega arith) (omega (arith, rank_mono_lt (kid_map ws) v five l h))
  other_kid v h (inr (inr l)) =
      let next : kid_index ws' v ≡ kid_index ws v + 1 =
      omega (arith, index' v (rank (kid_map ws) v + 1) (ap (λ n. rank n v) kids ∙ rank-add_above (kid_map ws) five v clear l)) in
      ap (slice_index ws') next
      ∙ put.high (kid_index ws v) (omega (arith, rank_mono (kid_map ws) five v (omega (arith, l)))) (omega (arith, rank_lt (kid_map ws) v h))

  -- the words of the rows have stayed
  row_stayed : (b : ℕ) → bit_at (row_map ws) b ≡ 1 → slice_index ws' (row_index ws' b) ≡ slice_index ws (row_index ws b)
  row_stayed b h = ap (λ n. slice_index ws' (3 + rank n b)) rows ∙ put.low (row_index ws b) (omega arith) (omega (arith, rank_lt (row_map ws) b h))

  -- the block has the kid now, and else what it had
  pub kid_inserted : ChangesKid ws ws' five place
  kid_inserted = record {
    here = kid-set ws' five is_set' ∙ new_kid;
    others = λ v n. same_kid ws ws' v (other_bit' v n) (λ h. other_kid v h (cases_order v five));
    rows = λ b. same_row ws ws' b (ap (λ n. bit_at n b) rows) (row_stayed b);
  }

  -- it is as large as its words want
  pub kid_inserted_block : five < 32 → place ≢ 0 → IsBlock ws → IsBlock ws'
  kid_inserted_block small some b = record {
    size = put.size ∙ ap size_for (omega (arith, ap count_ones kids, ones-add (kid_map ws) five clear, ap count_ones rows));
    few_rows = subst (λ n. n < 2 ^ 62) (sym rows) b.few_rows;
    few_kids = subst (λ n. n < 2 ^ 32) (sym kids) (add_lt (kid_map ws) five 32 b.few_kids small clear);
    kids_there = λ v h e. elim (cases_eq v five) [
      | inl same ↦ some (sym (kid_inserted.here) ∙ ap (kid_in ws') (sym same) ∙ e)
      | inr n ↦ b.kids_there v (sym (other_bit' v n) ∙ h) (sym (kid_inserted.others v n) ∙ e)
    ];
  }

-- ---- another word stands in place of one
module _ (ws ws' : List ℕ) (at word : ℕ) (put : IsReplaced ws ws' at word) (behind : 3 ≤ at) where
  -- the bitmaps stay
  pub rows_kept : row_map ws' ≡ row_map ws
  rows_kept = let a = put.others 0 (omega arith) in let b = put.others 1 (omega arith) in omega (arith, a, b)

  pub kids_kept : kid_map ws' ≡ kid_map ws
  kids_kept = put.others 2 (omega arith)

  row_kept_where : (b : ℕ) → (bit_at (row_map ws) b ≡ 1 → row_index ws b ≢ at) → row_in ws' b ≡ row_in ws b
  row_kept_where b n = same_row ws ws' b (ap (λ m. bit_at m b) rows_kept) (λ h. ap (λ m. slice_index ws' (3 + rank m b)) rows_kept ∙ put.others (row_index ws b) (n h))

  same_index : (v : ℕ) → kid_index ws' v ≡ kid_index ws v
  same_index v = omega (arith, ap count_ones rows_kept, ap (λ m. rank m v) kids_kept)

  kid_kept_where : (v : ℕ) → (bit_at (kid_map ws) v ≡ 1 → kid_index ws v ≢ at) → kid_in ws' v ≡ kid_in ws v
  kid_kept_where v n = same_kid ws ws' v (ap (λ m. bit_at m v) kids_kept) (λ h. ap (slice_index ws') (same_index v) ∙ put.others (kid_index ws v) (n h))

  pub row_replaced : (bit : ℕ) → bit_at (row_map ws) bit ≡ 1 → at ≡ row_index ws bit → ChangesRow ws ws' bit (Some word)
  row_replaced bit set e = record {
    here = row-set ws' bit (ap (λ m. bit_at m bit) rows_kept ∙ set) ∙ ap Some (ap (λ m. slice_index ws' (3 + rank m bit)) rows_kept ∙ ap (slice_index ws') (sym e) ∙ put.here);
    others = λ b n. row_kept_where b (λ h. other b n h (cases_order b bit));
    kids = λ v. kid_kept_where v (λ h f. omega (arith, f, e, rank_lt (row_map ws) bit set));
  }
    where
      other : (b : ℕ) → b ≢ bit → bit_at (row_map ws) b ≡ 1 → (b ≡ bit) ⊎ ((b < bit) ⊎ (bit < b)) → row_index ws b ≢ at
      other b n h (inl same) x = n same
      other b n h (inr (inl l)) x = omega (arith, rank_mono_lt (row_map ws) b bit l h, x, e)
      other b n h (inr (inr l)) x = omega (arith, rank_mono_lt (row_map ws) bit b l set, x, e)

  pub row_replaced_block : (bit : ℕ) → bit_at (row_map ws) bit ≡ 1 → at ≡ row_index ws bit → IsBlock ws → IsBlock ws'
  row_replaced_block bit set e b = record {
    size = put.size ∙ b.size ∙ ap size_for (omega (arith, ap count_ones rows_kept, ap count_ones kids_kept));
    few_rows = subst (λ n. n < 2 ^ 62) (sym rows_kept) b.few_rows;
    few_kids = subst (λ n. n < 2 ^ 32) (sym kids_kept) b.few_kids;
    kids_there = λ v h z. b.kids_there v (ap (λ n. bit_at n v) (sym kids_kept) ∙ h) (sym ((row_replaced bit set e).kids v) ∙ z);
  }

  -- the place of a kid
  pub kid_replaced : (five : ℕ) → bit_at (kid_map ws) five ≡ 1 → at ≡ kid_index ws five → ChangesKid ws ws' five word
  kid_replaced five set e = record {
    here = kid-set ws' five (ap (λ m. bit_at m five) kids_kept ∙ set) ∙ ap (slice_index ws') (same_index five ∙ sym e) ∙ put.here;
    others = λ v n. kid_kept_where v (λ h. other v n h (cases_order v five));
    rows = λ b. row_kept_where b (λ h f. omega (arith, f, e, rank_lt (row_map ws) b h));
  }
    where
      other : (v : ℕ) → v ≢ five → bit_at (kid_map ws) v ≡ 1 → (v ≡ five) ⊎ ((v < five) ⊎ (five < v)) → kid_index ws v ≢ at
      other v n h (inl same) x = n same
      other v n h (inr (inl l)) x = omega (arith, rank_mono_lt (kid_map ws) v five l h, x, e)
      other v n h (inr (inr l)) x = omega (arith, rank_mono_lt (kid_map ws) five v l set, x, e)

  pub kid_replaced_block : (five : ℕ) → bit_at (kid_map ws) five ≡ 1 → at ≡ kid_index ws five → word ≢ 0 → IsBlock ws → IsBlock ws'
  kid_replaced_block five set e some b = record {
    size = put.size ∙ b.size ∙ ap size_for (omega (arith, ap count_ones rows_kept, ap count_ones kids_kept));
    few_rows = subst (λ n. n < 2 ^ 62) (sym rows_kept) b.few_rows;
    few_kids = subst (λ n. n < 2 ^ 32) (sym kids_kept) b.few_kids;
    kids_there = λ v h z. elim (cases_eq v five) [
      | inl same ↦ some (sym (kid_replaced five set e).here ∙ ap (kid_in ws') (sym same) ∙ z)
      | inr n ↦ b.kids_there v (ap (λ m. bit_at m v) (sym kids_kept) ∙ h) (sym ((kid_replaced five set e).others v n) ∙ z)
    ];
  }

-- ---- a row is gone
module _ (ws ws' : List ℕ) (bit : ℕ) (clear : bit_at (row_map ws') bit ≡ 0)
    (rows : row_map ws ≡ row_map ws' + 2 ^ bit) (kids : kid_map ws' ≡ kid_map ws) (out : IsRemoved ws ws' (row_index ws bit)) where
  bit_left : (b : ℕ) → b ≢ bit → bit_at (row_map ws') b ≡ bit_at (row_map ws) b
  bit_left b n = sym (ap (λ m. bit_at m b) rows ∙ bit_at-add_other (row_map ws') bit b clear n)

  own_rank : rank (row_map ws) bit ≡ rank (row_map ws') bit
  own_rank = ap (λ n. rank n bit) rows ∙ rank-add_below (row_map ws') bit bit clear (omega arith)

  -- the words of the other rows have stayed, or moved down
  row_left : (b : ℕ) → bit_at (row_map ws) b ≡ 1 → b ≢ bit → (b ≡ bit) ⊎ ((b < bit) ⊎ (bit < b)) → slice_index ws' (row_index ws' b) ≡ slice_index ws (row_index ws b)
  row_left b h n (inl e) = absurd (n e)
  row_left b h n (inr (inl l)) =
      let same : rank (row_map ws) b ≡ rank (row_map ws') b = ap (λ x. rank x b) rows ∙ rank-add_below (row_map ws') bit b clear (omega (arith, l)) in
      ap (λ r. slice_index ws' (3 + r)) (sym same) ∙ out.low (row_index ws b) (omega arith) (omega (arith, rank_mono_lt (row_map ws) b bit l h))
  row_left b h n (inr (inr l)) =
      let next : rank (row_map ws) b ≡ rank (row_map ws') b + 1 = ap (λ x. rank x b) rows ∙ rank-add_above (row_map ws') bit b clear l in
      let at : row_index ws' b + 1 ≡ row_index ws b = omega (arith, next) in
      out.high (row_index ws' b) (omega (arith, own_rank, rank_mono (row_map ws') bit b (omega (arith, l)))) (omega (arith, next, rank_lt (row_map ws) b h)) ∙ ap (slice_index ws) at

  -- so have the places of the kids
  kid_left : (v : ℕ) → bit_at (kid_map ws) v ≡ 1 → slice_index ws' (kid_index ws' v) ≡ slice_index ws (kid_index ws v)
  kid_left v h =
      let next : kid_index ws' v + 1 ≡ kid_index ws v = omega (arith, ap count_ones rows, ones-add (row_map ws') bit clear, ap (λ n. rank n v) kids) in
      out.high (kid_index ws' v) (omega (arith, own_rank, rank_le (row_map ws') bit)) (omega (arith, next, rank_lt (kid_map ws) v h)) ∙ ap (slice_index ws) next

  -- the block has no row there now, and else what it had
  pub row_removed : ChangesRow ws ws' bit None
  row_removed = record {
    here = row-clear ws' bit (λ h. omega (arith, h, clear));
    others = λ b n. same_row ws ws' b (bit_left b n) (λ h. row_left b h n (cases_order b bit));
    kids = λ v. same_kid ws ws' v (ap (λ n. bit_at n v) kids) (kid_left v);
  }

  pub row_removed_block : IsBlock ws → IsBlock ws'
  row_removed_block b = record {
    size = out.size ∙ ap size_for (omega (arith, ap count_ones rows, ones-add (row_map ws') bit clear, ap count_ones kids));
    few_rows = let few = b.few_rows in omega (arith, few, rows);
    few_kids = subst (λ n. n < 2 ^ 32) (sym kids) b.few_kids;
    kids_there = λ v h e. b.kids_there v (ap (λ n. bit_at n v) (sym kids) ∙ h) (sym (row_removed.kids v) ∙ e);
  }

-- ---- a kid is gone
module _ (ws ws' : List ℕ) (five : ℕ) (clear : bit_at (kid_map ws') five ≡ 0)
    (rows : row_map ws' ≡ row_map ws) (kids : kid_map ws ≡ kid_map ws' + 2 ^ five) (out : IsRemoved ws ws' (kid_index ws five)) where
  five_left : (v : ℕ) → v ≢ five → bit_at (kid_map ws') v ≡ bit_at (kid_map ws) v
  five_left v n = sym (ap (λ m. bit_at m v) kids ∙ bit_at-add_other (kid_map ws') five v clear n)

  own_rank' : rank (kid_map ws) five ≡ rank (kid_map ws') five
  own_rank' = ap (λ n. rank n five) kids ∙ rank-add_below (kid_map ws') five five clear (omega arith)

  other_left : (v : ℕ) → bit_at (kid_map ws) v ≡ 1 → v ≢ five → (v ≡ five) ⊎ ((v < five) ⊎ (five < v)) → slice_index ws' (kid_index ws' v) ≡ slice_index ws (kid_index ws v)
  other_left v h n (inl e) = absurd (n e)
  other_left v h n (inr (inl l)) =
      let same : kid_index ws' v ≡ kid_index ws v = omega (arith, ap count_ones rows, ap (λ x. rank x v) kids, rank-add_below (kid_map ws') five v clear (omega (arith, l))) in
      ap (slice_index ws') same ∙ out.low (kid_index ws v) (omega arith) (omega (arith, rank_mono_lt (kid_map ws) v five l h))
  other_left v h n (inr (inr l)) =
      let next : kid_index ws' v + 1 ≡ kid_index ws v = omega (arith, ap count_ones rows, ap (λ x. rank x v) kids, rank-add_above (kid_map ws') five v clear l) in
      out.high (kid_index ws' v) (omega (arith, ap count_ones rows, own_rank', rank_mono (kid_map ws') five v (omega (arith, l)))) (omega (arith, next, rank_lt (kid_map ws) v h)) ∙ ap (slice_index ws) next

  row_left' : (b : ℕ) → bit_at (row_map ws) b ≡ 1 → slice_index ws' (row_index ws' b) ≡ slice_index ws (row_index ws b)
  row_left' b h = ap (λ n. slice_index ws' (3 + rank n b)) rows ∙ out.low (row_index ws b) (omega arith) (omega (arith, rank_lt (row_map ws) b h))

  pub kid_removed : ChangesKid ws ws' five 0
  kid_removed = record {
    here = kid-clear ws' five (λ h. omega (arith, h, clear));
    others = λ v n. same_kid ws ws' v (five_left v n) (λ h. other_left v h n (cases_order v five));
    rows = λ b. same_row ws ws' b (ap (λ n. bit_at n b) rows) (row_left' b);
  }

  pub kid_removed_block : IsBlock ws → IsBlock ws'
  kid_removed_block b = record {
    size = out.size ∙ ap size_for (omega (arith, ap count_ones kids, ones-add (kid_map ws') five clear, ap count_ones rows));
    few_rows = subst (λ n. n < 2 ^ 62) (sym rows) b.few_rows;
    few_kids = let few = b.few_kids in omega (arith, few, kids);
    kids_there = λ v h e. elim (cases_eq v five) [
      | inl same ↦ absurd (let one : bit_at (kid_map ws') five ≡ 1 = ap (bit_at (kid_map ws')) (sym same) ∙ h in omega (arith, one, clear))
      | inr n ↦ b.kids_there v (sym (five_left v n) ∙ h) (sym (kid_removed.others v n) ∙ e)
    ];
  }
