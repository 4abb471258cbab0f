-- What the code reads of an image.
use Rattle.std.proofs.Common.{ℕ, suc, ◌≡◌, ◌↔◌, ◌+◌, ◌-◌, ◌^◌, ◌<◌, ◌≤◌, min, bit_and, Option, is_some, arith, sym, ap, subst, ◌∙◌}
use Rattle.std.specs.Int.{bit_at}
use Rattle.bitmaps.specs.{Bits.IsHighest, Greatest.GreatestBelow}
use Rattle.array_bitmap.specs.Bits.{depth_of, five_bits, row_bit, width}
use Rattle.array_bitmap.specs.Words.{found}
use Rattle.array_bitmap.specs.Blocks.{row_map, kid_in, word_after, IsBlock}
use Rattle.array_bitmap.specs.Tree.{Cells, words_in_block, kid_at, block_at, word_at, IsSoundCells}
use Rattle.bitmaps.proofs.Options.{some-from}
use Rattle.array_bitmap.proofs.{Walks.block-next, OnePath.block_used, LongestRow.best_after, LongestRow.best_at_end}

-- each block of a path is one
pub block_is : (c : Cells) (sound : IsSoundCells c) (path steps block : ℕ) → block ≡ block_at c path steps → IsBlock (words_in_block (c.heap block))
block_is c sound path steps block e =
    let s = some-from (c.heap block) (ap (λ p. is_some (c.heap p)) e ∙ block_used c sound path steps) in
    subst (λ o. IsBlock (words_in_block o)) (sym s.1) (sound.blocks block s.0 s.1)

pub next_block : (c : Cells) (path level five block kid : ℕ) → c.first ≤ level → block ≡ block_at c path (level - c.first) → five ≡ five_bits path level → kid ≡ kid_in (words_in_block (c.heap block)) five
    → kid ≡ block_at c path (level + 1 - c.first)
next_block c path level five block kid low at f k =
    let e : level + 1 - c.first ≡ suc (level - c.first) = omega (arith, low) in
    let l : c.first + (level - c.first) ≡ level = omega (arith, low) in
    k ∙ ap (λ b. kid_in (words_in_block (c.heap b)) five) at ∙ ap (kid_at c (block_at c path (level - c.first))) (f ∙ ap (five_bits path) (sym l))
    ∙ sym (ap (block_at c path) e ∙ block-next c path (level - c.first))

-- the longest row down to the next level
pub longest_next : (c : Cells) (sound : IsSoundCells c) (path level five block best cover word : ℕ) → path < 2 ^ 34 → c.first ≤ level → level ≤ 5 → block ≡ block_at c path (level - c.first)
    → five ≡ five_bits path level → ((k : ℕ) → bit_at cover k ≡ 1 ↔ ((more : ℕ) × (more < width level) × (k ≡ row_bit five more)))
    → GreatestBelow (word_at c path) (depth_of level + 1) (found best)
    → ((bit : Option ℕ) × IsHighest 64 (bit_and (row_map (words_in_block (c.heap block))) cover) bit × (word ≡ word_after (words_in_block (c.heap block)) best bit))
    → GreatestBelow (word_at c path) (min (depth_of (level + 1) + 1) 33) (found word)
longest_next c sound path level five block best cover word fits low deep at f covered above read =
    let steps : ℕ = level - c.first in
    let l : level ≡ c.first + (level - c.first) = omega (arith, low) in
    let n : depth_of level + 1 + width level ≡ min (depth_of (level + 1) + 1) 33 = omega (arith, deep) in
    let cover' : (k : ℕ) → bit_at cover k ≡ 1 ↔ ((more : ℕ) × (more < width (c.first + (level - c.first))) × (k ≡ row_bit (five_bits path (c.first + (level - c.first))) more)) =
    subst (λ x. (k : ℕ) → bit_at cover k ≡ 1 ↔ ((more : ℕ) × (more < width x) × (k ≡ row_bit (five_bits path x) more))) l
    (subst (λ x. (k : ℕ) → bit_at cover k ≡ 1 ↔ ((more : ℕ) × (more < width level) × (k ≡ row_bit x more))) f covered) in
    let after = best_after c sound path fits (level - c.first) cover best read.0 (omega (arith, l, deep)) cover'
    (subst (λ b. IsHighest 64 (bit_and (row_map (words_in_block (c.heap b))) cover) read.0) at read.1)
    (subst (λ x. GreatestBelow (word_at c path) (depth_of x + 1) (found best)) l above) in
    subst (λ x. GreatestBelow (word_at c path) x (found word)) n
    (subst (λ x. GreatestBelow (word_at c path) (depth_of x + 1 + width x) (found word)) (sym l)
    (subst (λ w. GreatestBelow (word_at c path) (depth_of (c.first + (level - c.first)) + 1 + width (c.first + (level - c.first))) (found w))
    (sym (read.2 ∙ ap (λ b. word_after (words_in_block (c.heap b)) best read.0) at)) after))

-- where a path has no next block, its longest row is found
pub longest_ends : (c : Cells) (sound : IsSoundCells c) (path level block best : ℕ) → c.first ≤ level → level ≤ 5 → block ≡ block_at c path (level + 1 - c.first) → block ≡ 0
    → GreatestBelow (word_at c path) (min (depth_of (level + 1) + 1) 33) (found best) → GreatestBelow (word_at c path) 33 (found best)
longest_ends c sound path level block best low deep at none above =
    let l : level ≡ c.first + (level - c.first) = omega (arith, low) in
    let e : level + 1 - c.first ≡ suc (level - c.first) = omega (arith, low) in
    let n : min (depth_of (level + 1) + 1) 33 ≡ depth_of (c.first + (level - c.first)) + 1 + width (c.first + (level - c.first)) = omega (arith, l, deep) in
    best_at_end c sound path (level - c.first) best (omega (arith, l, deep))
    (sym (block-next c path (level - c.first)) ∙ ap (block_at c path) (sym e) ∙ sym at ∙ none)
    (subst (λ x. GreatestBelow (word_at c path) x (found best)) n above)
