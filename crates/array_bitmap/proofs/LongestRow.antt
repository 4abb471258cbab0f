-- The longest row on a path.
use Rattle.std.proofs.Common.{ℕ, ◌≡◌, ◌↔◌, ◌+◌, ◌^◌, ◌<◌, ◌≤◌, bit_and, Option, Some, None, arith, sym, ap, subst, ◌∙◌}
use Rattle.std.specs.Int.{bit_at}
use Rattle.std.proofs.lemmas.Bool.{cond-false, ne_eqb}
use Rattle.bitmaps.specs.{Bits.IsHighest, Greatest.GreatestBelow}
use Rattle.bitmaps.proofs.Finds.{GreatestBelow-end, GreatestBelow-longer}
use Rattle.array_bitmap.specs.Bits.{depth_of, five_bits, row_bit, width}
use Rattle.array_bitmap.specs.Words.{kind_of, found, nothing, IsRowWord}
use Rattle.array_bitmap.specs.Blocks.{row_map, row_in, word_after}
use Rattle.array_bitmap.specs.Tree.{Cells, words_at, kid_at, block_at, word_at, IsSoundCells}
use Rattle.array_bitmap.proofs.{Covering.none_in, Covering.some_in, Walks.word_in, Walks.block-next, Walks.none_after}

-- what is found by a row's word
pub found-row : (len w : ℕ) → IsRowWord len w → found w ≡ Some (len, w)
found-row len w r =
    let kind = r.of_row in
    cond-false _ _ _ (ne_eqb w nothing (λ e. let k : kind_of w ≡ 3 = ap kind_of e in omega (arith, k, kind))) ∙ ap (λ l. Some (l, w)) r.of_length

module _ (c : Cells) (sound : IsSoundCells c) (path : ℕ) (fits : path < 2 ^ 34) where
  -- the rows of the lengths that end in a block are those of the path
  rows_in : (steps : ℕ) → c.first + steps ≤ 5 → (more : ℕ) → more < width (c.first + steps)
      → word_at c path (depth_of (c.first + steps) + 1 + more) ≡ row_in (words_at c (block_at c path steps)) (row_bit (five_bits path (c.first + steps)) more)
  rows_in steps deep more l =
      let e : depth_of (c.first + steps) + 1 + more ≡ depth_of (c.first + steps) + (more + 1) = omega arith in
      ap (word_at c path) e ∙ word_in c path steps more (omega (arith, l))

  -- one block more is read
  pub best_after : (steps cover best : ℕ) (bit : Option ℕ) → c.first + steps ≤ 5
      → ((k : ℕ) → bit_at cover k ≡ 1 ↔ ((more : ℕ) × (more < width (c.first + steps)) × (k ≡ row_bit (five_bits path (c.first + steps)) more)))
      → IsHighest 64 (bit_and (row_map (words_at c (block_at c path steps))) cover) bit
      → GreatestBelow (word_at c path) (depth_of (c.first + steps) + 1) (found best)
      → GreatestBelow (word_at c path) (depth_of (c.first + steps) + 1 + width (c.first + steps)) (found (word_after (words_at c (block_at c path steps)) best bit))
  best_after steps cover best None deep covered top above =
      GreatestBelow-longer (word_at c path) (λ more. row_in (words_at c (block_at c path steps)) (row_bit (five_bits path (c.first + steps)) more))
      (depth_of (c.first + steps) + 1) (width (c.first + steps)) None (found best) (rows_in steps deep)
      (none_in (words_at c (block_at c path steps)) (five_bits path (c.first + steps)) (c.first + steps) cover (omega arith) covered top) (λ none. above)
  best_after steps cover best (Some bit) deep covered top above =
      let own = some_in (words_at c (block_at c path steps)) (five_bits path (c.first + steps)) (c.first + steps) cover (omega arith) covered bit top in
      let word = word_after (words_at c (block_at c path steps)) best (Some bit) in
      let best' = GreatestBelow-longer (word_at c path) (λ more. row_in (words_at c (block_at c path steps)) (row_bit (five_bits path (c.first + steps)) more))
      (depth_of (c.first + steps) + 1) (width (c.first + steps)) (Some (own.0, word)) (found best) (rows_in steps deep) own.1 (λ none. above) in
      let short : depth_of (c.first + steps) + 1 + own.0 ≤ 32 = omega (arith, best'.0, deep) in
      subst (GreatestBelow (word_at c path) (depth_of (c.first + steps) + 1 + width (c.first + steps)))
      (sym (found-row (depth_of (c.first + steps) + 1 + own.0) word (sound.row_words path (depth_of (c.first + steps) + 1 + own.0) word fits short best'.1))) best'

-- where there is no kid, nothing longer is found
pub best_at_end : (c : Cells) (sound : IsSoundCells c) (path steps best : ℕ) → c.first + steps ≤ 5 → kid_at c (block_at c path steps) (five_bits path (c.first + steps)) ≡ 0
    → GreatestBelow (word_at c path) (depth_of (c.first + steps) + 1 + width (c.first + steps)) (found best) → GreatestBelow (word_at c path) 33 (found best)
best_at_end c sound path steps best deep none above =
    GreatestBelow-end (word_at c path) (depth_of (c.first + steps) + 1 + width (c.first + steps)) 33 (found best) (omega (arith, deep))
    (λ k l h. none_after c sound.nowhere path steps k (block-next c path steps ∙ none) (omega (arith, l, h))) above
