-- Walks down from the array.
use Rattle.std.proofs.Common.{ℕ, zero, suc, ◌≡◌, ◌≢◌, inl, inr, ◌+◌, ◌-◌, ◌<◌, ◌≤◌, List, [], ◌∷◌, slice_index, Some, None, arith, refl, sym, ap, subst, ◌∙◌}
use Rattle.std.specs.Int.{bit_at}
use Rattle.std.proofs.lemmas.Bool.{cond-true, cond-false, eq-eqb, ne_eqb, le-leb, lt-leb, cases_eq}
use Rattle.std.proofs.lemmas.Nat.Bits.{bit_at-zero}
use Rattle.array_bitmap.specs.Bits.{depth_of, five_bits, path_start, row_bit, level_of, more_of}
use Rattle.array_bitmap.specs.Blocks.{kid_map, kid_index, row_in, kid_in}
use Rattle.array_bitmap.specs.Tree.{Cells, words_in_block, words_at, kid_at, block_at, short_word, long_word, word_at}
use Rattle.array_bitmap.proofs.{PathBits.before_level, PathBits.level_from_parts, PathBits.more_from_parts, Covering.row-clear}

-- a kid whose bit is set, and one whose bit is not
pub kid-set : (ws : List ℕ) (five : ℕ) → bit_at (kid_map ws) five ≡ 1 → kid_in ws five ≡ slice_index ws (kid_index ws five)
unfolding kid_in
kid-set ws five h = cond-true _ _ _ (eq-eqb _ 1 h)

pub kid-clear : (ws : List ℕ) (five : ℕ) → (bit_at (kid_map ws) five ≡ 1 → ⊥) → kid_in ws five ≡ 0
unfolding kid_in
kid-clear ws five h = cond-false _ _ _ (ne_eqb _ 1 h)

-- where there is a kid, its bit is set
pub kid_is_set : (ws : List ℕ) (five : ℕ) → kid_in ws five ≢ 0 → bit_at (kid_map ws) five ≡ 1
kid_is_set ws five h = elim (cases_eq (bit_at (kid_map ws) five) 1) [
  | inl e ↦ e
  | inr n ↦ absurd (h (kid-clear ws five n))
]

-- the block of four zeros
abbrev pub zeros : List ℕ
zeros = 0 ∷ 0 ∷ 0 ∷ 0 ∷ []

-- it has no kids and no rows
pub no_kid : (five : ℕ) → kid_in zeros five ≡ 0
no_kid five = kid-clear zeros five (λ h. let z : bit_at 0 five ≡ 0 = bit_at-zero five in omega (arith, h, z))

pub no_row : (bit : ℕ) → row_in zeros bit ≡ None
no_row bit = row-clear zeros bit (λ h. let z : bit_at 0 bit ≡ 0 = bit_at-zero bit in omega (arith, h, z))

module _ (c : Cells) where
  -- a walk begins in the array
  pub block-first : (path : ℕ) → block_at c path 0 ≡ c.tops (path_start path (depth_of c.first))
  unfolding block_at
  block-first path = refl

  -- and goes on to a kid
  pub block-next : (path steps : ℕ) → block_at c path (suc steps) ≡ kid_at c (block_at c path steps) (five_bits path (c.first + steps))
  unfolding block_at
  block-next path steps = refl

  -- a prefix is short, or ends in a block
  pub word-short : (path len : ℕ) → len ≤ depth_of c.first → word_at c path len ≡ short_word c path len
  unfolding word_at
  word-short path len h = cond-true _ _ _ (le-leb len (depth_of c.first) h)

  pub word-long : (path len : ℕ) → depth_of c.first < len → word_at c path len ≡ long_word c path len
  unfolding word_at
  word-long path len h = cond-false _ _ _ (lt-leb len (depth_of c.first) h)

  -- by the block in which it ends
  pub word_in : (path steps more : ℕ) → more < 5
      → word_at c path (depth_of (c.first + steps) + (more + 1)) ≡ row_in (words_at c (block_at c path steps)) (row_bit (five_bits path (c.first + steps)) more)
  unfolding long_word
  word_in path steps more h =
      let len : ℕ = depth_of (c.first + steps) + (more + 1) in
      let level : level_of len ≡ c.first + steps = level_from_parts (c.first + steps) more h in
      let rest : more_of len ≡ more = more_from_parts (c.first + steps) more h in
      let down : level_of len - c.first ≡ steps = omega (arith, level) in
      word-long path len (omega arith)
      ∙ ap (λ s. row_in (words_at c (block_at c path s)) (row_bit (five_bits path (level_of len)) (more_of len))) down
      ∙ ap (λ l. row_in (words_at c (block_at c path steps)) (row_bit (five_bits path l) (more_of len))) level
      ∙ ap (λ m. row_in (words_at c (block_at c path steps)) (row_bit (five_bits path (c.first + steps)) m)) rest

  -- a walk goes by the first bits alone
  pub block-same : (p q steps : ℕ) → c.first + steps ≤ 6 → path_start p (depth_of (c.first + steps)) ≡ path_start q (depth_of (c.first + steps)) → block_at c p steps ≡ block_at c q steps
  unfolding block_at
  block-same p q zero h e =
      let z : c.first + 0 ≡ c.first = omega arith in
      ap c.tops (subst (λ l. path_start p (depth_of l) ≡ path_start q (depth_of l)) z e)
  block-same p q (suc steps) h e =
      let z : c.first + suc steps ≡ suc (c.first + steps) = omega arith in
      let b = before_level p q (c.first + steps) (omega (arith, h)) (subst (λ l. path_start p (depth_of l) ≡ path_start q (depth_of l)) z e) in
      ap (λ v. kid_at c (block_at c p steps) v) b.1 ∙ ap (λ x. kid_at c x (five_bits q (c.first + steps))) (block-same p q steps (omega (arith, h)) b.0)

  module _ (nowhere : c.heap 0 ≡ Some zeros) where
    -- 0 is the place of four zeros
    pub words-nowhere : words_at c 0 ≡ zeros
    words-nowhere = ap words_in_block nowhere

    -- it has no kids and no rows
    pub kid-nowhere : (five : ℕ) → kid_at c 0 five ≡ 0
    kid-nowhere five = ap (λ ws. kid_in ws five) words-nowhere ∙ no_kid five

    pub row-nowhere : (bit : ℕ) → row_in (words_at c 0) bit ≡ None
    row-nowhere bit = ap (λ ws. row_in ws bit) words-nowhere ∙ no_row bit

    -- a place with a kid is that of a block
    pub kid_of_some : (place five : ℕ) → kid_at c place five ≢ 0 → place ≢ 0
    kid_of_some place five h e = h (ap (λ p. kid_at c p five) e ∙ kid-nowhere five)

    -- where a walk has ended it stays ended
    pub gone : (path steps more : ℕ) → block_at c path steps ≡ 0 → block_at c path (more + steps) ≡ 0
    gone path steps zero e = let z : zero + steps ≡ steps = omega arith in ap (block_at c path) z ∙ e
    gone path steps (suc more) e =
        let z : suc more + steps ≡ suc (more + steps) = omega arith in
        ap (block_at c path) z ∙ block-next path (more + steps) ∙ ap (λ p. kid_at c p (five_bits path (c.first + (more + steps)))) (gone path steps more e)
        ∙ kid-nowhere (five_bits path (c.first + (more + steps)))

    -- where a path has no block at a level, no longer prefix has a row
    pub none_below : (path steps len : ℕ) → block_at c path steps ≡ 0 → depth_of (c.first + steps) < len → word_at c path len ≡ None
    none_below path steps len e h =
        let level : ℕ = level_of len in
        let m : level - c.first - steps + steps ≡ level - c.first = omega arith in
        let on : c.first + (level - c.first) ≡ level = omega arith in
        let few : more_of len < 5 = omega arith in
        let whole : depth_of (c.first + (level - c.first)) + (more_of len + 1) ≡ len = omega arith in
        let end : block_at c path (level - c.first) ≡ 0 = ap (block_at c path) (sym m) ∙ gone path steps (level - c.first - steps) e in
        ap (word_at c path) (sym whole) ∙ word_in path (level - c.first) (more_of len) few
        ∙ ap (λ p. row_in (words_at c p) (row_bit (five_bits path (c.first + (level - c.first))) (more_of len))) end ∙ row-nowhere _

    -- so it is past a block without a kid for the path
    pub none_after : (path steps len : ℕ) → block_at c path (suc steps) ≡ 0 → depth_of (c.first + suc steps) < len → word_at c path len ≡ None
    none_after path steps len e h = none_below path (suc steps) len e h

-- where there are no words, there is no kid
pub no_kid_none : (five : ℕ) → kid_in [] five ≡ 0
no_kid_none five = kid-clear [] five (λ h. let z : bit_at 0 five ≡ 0 = bit_at-zero five in omega (arith, h, z))

pub no_row_none : (bit : ℕ) → row_in [] bit ≡ None
no_row_none bit = row-clear [] bit (λ h. let z : bit_at 0 bit ≡ 0 = bit_at-zero bit in omega (arith, h, z))
