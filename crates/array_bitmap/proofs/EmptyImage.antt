-- An image without rows, and one with the same words.
use Rattle.std.proofs.Common.{ℕ, suc, ◌≡◌, inl, inr, ◌+◌, ◌-◌, ◌*◌, ◌^◌, ◌≤◌, List, [], get_or, replicate, Option, None, option_map, arith, refl, sym, ap, subst, ◌∙◌}
use Rattle.std.specs.{Int.bit_at, Int.RustNames.count_ones}
use Rattle.std.proofs.lemmas.Bool.{cases_eq, cases_lt, cond-true, cond-false, eq-eqb, ne_eqb}
use Rattle.std.proofs.lemmas.Nat.Bits.{bit_at-zero}
use mathlib.Core.Path.{fun_ext}
use Rattle.word_pool.specs.Heap.{HasOnlyZeros}
use Rattle.ipv4_prefix.proofs.TableRows.{table_rows-empty}
use Rattle.array_bitmap.specs.Bits.{depth_of, five_bits, path_start, row_bit, level_of, more_of}
use Rattle.array_bitmap.specs.{Words.nothing, Words.word_entry, Words.found, declared.tree.Top.Top}
use Rattle.array_bitmap.specs.Blocks.{size_for, row_in, kid_in, IsBlock}
use Rattle.bitmaps.specs.Greatest.{GreatestBelow}
use Rattle.array_bitmap.specs.Tree.{Cells, words_in_block, words_at, block_at, short_word, long_word, word_at, named, entry_in, rows_of_cells, IsSoundCells}
use Rattle.array_bitmap.proofs.{ShortRows.nothing_shown, ShortRows.nothing_found, ShortSet.array_cells}
use Rattle.bitmaps.proofs.Options.{none≢some, Some_same}
use Rattle.array_bitmap.proofs.Walks.{zeros, no_kid_none, row-nowhere, gone, block-first, word-short, word-long}

-- what is read of copies of a value is the value, also past their end
pub copies_are : {T : Type 0} (n k : ℕ) (a : T) → get_or (replicate n a) k a ≡ a
copies_are (suc n) (suc k) a = copies_are n k a
copies_are _ _ a = refl

-- four zeros are a block
pub zeros_block : IsBlock zeros
unfolding size_for count_ones
zeros_block = record {
  size = refl;
  few_rows = omega arith;
  few_kids = omega arith;
  kids_there = λ v h e. let z : bit_at 0 v ≡ 0 = bit_at-zero v in omega (arith, z, h);
}

module _ (c : Cells) (four : c.first ≤ 3) (shorts : (k : ℕ) → c.shorts k ≡ nothing) (bests : (x : ℕ) → c.bests x ≡ nothing) (tops : (x : ℕ) → c.tops x ≡ 0) (empty : HasOnlyZeros c.heap) where
  -- no walk comes to a block
  no_block : (path steps : ℕ) → block_at c path steps ≡ 0
  no_block path steps =
      let z : steps + 0 ≡ steps = omega arith in
      ap (block_at c path) (sym z) ∙ gone c empty.zeros path 0 steps (block-first c path ∙ tops (path_start path (depth_of c.first)))

  -- and there is no row
  pub empty_words : (path len : ℕ) → word_at c path len ≡ None
  unfolding short_word long_word
  empty_words path len = elim (cases_lt (depth_of c.first) len) [
    | inl long ↦
        word-long c path len long
        ∙ ap (λ p. row_in (words_at c p) (row_bit (five_bits path (level_of len)) (more_of len))) (no_block path (level_of len - c.first)) ∙ row-nowhere c empty.zeros _
    | inr low ↦ word-short c path len low ∙ nothing_shown (c.shorts (2 ^ len + path_start path len)) (shorts (2 ^ len + path_start path len))
  ]

  -- no name is that of a block
  unnamed : (p k : ℕ) → named c p k ≡ 0
  unnamed p k = elim (cases_eq p 0) [
    | inl z ↦ cond-true _ _ _ (eq-eqb p 0 z) ∙ tops k
    | inr n ↦ cond-false _ _ _ (ne_eqb p 0 n) ∙ ap (λ o. kid_in (words_in_block o) k) (empty.others p n) ∙ no_kid_none k
  ]

  pub empty_sound : IsSoundCells c
  empty_sound = record {
    four_sizes = four;
    nowhere = empty.zeros;
    blocks_there = λ p k n. absurd (n (unnamed p k));
    names_apart = λ p q k m n e. absurd (n (unnamed p k));
    blocks = λ p ws e. elim (cases_eq p 0) [
      | inl z ↦ subst IsBlock (Some_same (c.heap p) zeros ws (ap c.heap z ∙ empty.zeros) e) zeros_block
      | inr n ↦ absurd (none≢some (c.heap p) ws (empty.others p n) e)
    ];
    row_words = λ path len w fits short e. absurd (none≢some (word_at c path len) w (empty_words path len) e);
    longest_shorts = λ path fits. none_found path (c.bests (path_start path (depth_of c.first))) (bests (path_start path (depth_of c.first)));
  }
    where
      none_found : (path b : ℕ) → b ≡ nothing → GreatestBelow (word_at c path) (depth_of c.first + 1) (found b)
      none_found path b e = subst (GreatestBelow (word_at c path) (depth_of c.first + 1)) (sym (nothing_found b e)) (λ k l. empty_words path k)

  pub empty_rows : rows_of_cells c ≡ []
  empty_rows = table_rows-empty (entry_in c) (λ q. ap (option_map word_entry) (empty_words (q.addr * 4) q.len))

-- an image with the same arrays and blocks has the same words
pub cells_same : (first : ℕ) (h h' : ℕ → Option (List ℕ)) (s s' : List ℕ) (t t' : List Top) → s' ≡ s → t' ≡ t → ((b : ℕ) → h' b ≡ h b) → array_cells first h' s' t' ≡ array_cells first h s t
cells_same first h h' s s' t t' a b e = ap (λ x. array_cells first h' x t') a ∙ ap (array_cells first h' s) b ∙ ap (λ x. array_cells first x s t) (fun_ext e)
