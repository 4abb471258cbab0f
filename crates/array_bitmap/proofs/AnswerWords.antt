-- The words of answers, and the answers of words.
use Rattle.std.proofs.Common.{ℕ, zero, suc, ◌≡◌, ◌≢◌, inl, inr, ◌-◌, ◌*◌, ◌/◌, ◌^◌, ◌<◌, ◌≤◌, Option, Some, None, true, arith, refl, sym, ap, subst, ◌∙◌, eq-eqb}
use Rattle.std.proofs.{Math.Nat.div-mul-le_self, Math.Nat.mul-mod_left, lemmas.Nat.shl-shr}
use Rattle.std.proofs.lemmas.Bool.{cases_eq, cond-true, cond-false, ne_eqb}
use Rattle.ipv4_prefix.specs.{Prefix.Prefix, Prefix.IsPrefix, Prefix.covers, LongestMatch.longest_match}
use Rattle.ipv4_prefix.proofs.TableRows.{longest_in_table}
use Rattle.array_bitmap.specs.Words.{nothing, found, len_of, word_entry, answer_word, word_answer, IsRowWord, IsReadBack}
use Rattle.bitmaps.specs.Greatest.{GreatestBelow}
use Rattle.array_bitmap.specs.Tree.{Cells, word_at, entry_in, rows_of_cells, IsSoundCells}
use Rattle.array_bitmap.proofs.{ShortRows.some_found, LongestRow.found-row, PrefixRows.longest_on_path, PrefixRows.none_on_path}
use Rattle.bitmaps.proofs.Finds.{GreatestBelow-end}

-- the prefix of so many bits that covers an address
abbrev covering : ℕ → ℕ → Prefix
covering addr len = record { addr = addr / 2 ^ (32 - len) * 2 ^ (32 - len); len = len }

covering_is : (addr len : ℕ) → addr < 2 ^ 32 → len ≤ 32 → IsPrefix (covering addr len)
covering_is addr len fits short = record {
  short = short;
  fits = omega (arith, fits, div-mul-le_self addr (2 ^ (32 - len)));
  no_host_bits = mul-mod_left (addr / 2 ^ (32 - len)) (2 ^ (32 - len));
}

covering_covers : (addr len : ℕ) → covers (covering addr len) addr ≡ true
covering_covers addr len = eq-eqb _ _ (shl-shr (addr / 2 ^ (32 - len)) (32 - len))

-- there is a greatest, or nothing
greatest : {X : Type 0} (f : ℕ → Option X) (n : ℕ) → (best : Option (ℕ × X)) × GreatestBelow f n best
greatest f zero = (None, λ k l. absurd (omega (arith, l)))
greatest {X} f (suc n) = by (f n) refl (greatest f n)
  where
    by : (o : Option X) → f n ≡ o → (best : Option (ℕ × X)) × GreatestBelow f n best → (best : Option (ℕ × X)) × GreatestBelow f (suc n) best
    by (Some x) e below = (Some (n, x), (omega arith, e, λ k l h. absurd (omega (arith, l, h))))
    by None e below = (below.0, GreatestBelow-end f n (suc n) below.0 (omega arith) (λ k l h. let same : k ≡ n = omega (arith, l, h) in ap f same ∙ e) below.1)

module _ (c : Cells) (sound : IsSoundCells c) (addr : ℕ) (fits : addr < 2 ^ 32) where
  -- the word of the longest row, or that for no row
  word_there : (word : ℕ) × GreatestBelow (word_at c (addr * 4)) 33 (found word)
  word_there = by (greatest (word_at c (addr * 4)) 33)
    where
      by : (best : Option (ℕ × ℕ)) × GreatestBelow (word_at c (addr * 4)) 33 best → (word : ℕ) × GreatestBelow (word_at c (addr * 4)) 33 (found word)
      by (None, g) = (nothing, g)
      by (Some r, g) =
          let row = sound.row_words (addr * 4) r.0 r.1 (omega (arith, fits)) (omega (arith, g.0)) g.1 in
          (r.1, subst (GreatestBelow (word_at c (addr * 4)) 33) (sym (found-row r.0 r.1 row)) g)

  module _ (word : ℕ) (best : GreatestBelow (word_at c (addr * 4)) 33 (found word)) where
    -- a row's word is that of its length and its entry
    row_word : word ≢ nothing → IsRowWord (len_of word) word × (len_of word ≤ 32)
    row_word some =
        let g = subst (GreatestBelow (word_at c (addr * 4)) 33) (some_found word some) best in
        (sound.row_words (addr * 4) (len_of word) word (omega (arith, fits)) (omega (arith, g.0)) g.1, omega (arith, g.0))

    word_answers : longest_match addr (rows_of_cells c) ≡ word_answer addr word
    word_answers = elim (cases_eq word nothing) [
      | inl none ↦ longest_in_table (entry_in c) addr None (none_on_path c addr word none best) ∙ sym (cond-true _ _ _ (eq-eqb _ _ none))
      | inr some ↦
          longest_in_table (entry_in c) addr (Some (covering addr (len_of word), word_entry word))
          (longest_on_path c addr word (covering addr (len_of word)) some (covering_is addr (len_of word) fits (row_word some).1) refl (covering_covers addr (len_of word)) best)
          ∙ sym (cond-false _ _ _ (ne_eqb word nothing some))
    ]

    -- and is the word of what it answers
    word_again : answer_word (word_answer addr word) ≡ word
    word_again = elim (cases_eq word nothing) [
      | inl none ↦ ap answer_word (cond-true _ _ _ (eq-eqb _ _ none)) ∙ sym none
      | inr some ↦ ap answer_word (cond-false _ _ _ (ne_eqb word nothing some)) ∙ (row_word some).0.whole
    ]

    pub word_is : word ≡ answer_word (longest_match addr (rows_of_cells c))
    word_is = sym word_again ∙ ap answer_word (sym word_answers)

    short_word : len_of word ≤ 32
    short_word = elim (cases_eq word nothing) [
      | inl none ↦ omega (arith, none)
      | inr some ↦ (row_word some).1
    ]

    reads_back : IsReadBack addr (longest_match addr (rows_of_cells c))
    reads_back = record {
      short = subst (λ w. len_of w ≤ 32) word_is short_word;
      back = ap (word_answer addr) (sym word_is) ∙ sym word_answers;
    }

  pub read_back : IsReadBack addr (longest_match addr (rows_of_cells c))
  read_back = reads_back word_there.0 word_there.1
