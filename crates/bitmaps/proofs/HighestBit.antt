-- The greatest bit that is set, and bits of two bitmaps.
use Rattle.std.proofs.Common.{ℕ, suc, ◌≡◌, ◌≢◌, ⊎_elim, ◌+◌, ◌-◌, ◌*◌, ◌/◌, ◌%◌, ◌^◌, ◌<◌, ◌≤◌, min, bit_and, Some, arith, sym, ap, subst, ◌∙◌}
use Rattle.std.specs.{Int.bit_at, Int.Count.count_leading_zeros}
use Rattle.std.proofs.{lemmas.Bool.cases_order, lemmas.Nat.leading_top, lemmas.Nat.pow-add, lemmas.Nat.shr_high, lemmas.Nat.Bits.bit_at-lt, lemmas.Nat.Bits.bit_at_and, lemmas.Nat.Bits.bit_at_above}
use Rattle.bitmaps.specs.Bits.{IsHighest}

-- a number from 2 ^ j up to 2 ^ (j + 1) has bit j
top_bit : (a j : ℕ) → 2 ^ j ≤ a → a < 2 ^ suc j → bit_at a j ≡ 1
top_bit a j low high =
    let next : suc j ≡ 1 + j = omega arith in
    let two : 2 ^ suc j ≡ 2 ^ 1 * 2 ^ j = ap (λ m. 2 ^ m) next ∙ pow-add 2 1 j in
    let rest : a - 2 ^ j < 2 ^ j = omega (arith, high, two) in
    let whole : 1 * 2 ^ j + (a - 2 ^ j) ≡ a = omega (arith, low) in
    ap (λ m. m % 2) (ap (λ m. m / 2 ^ j) (sym whole) ∙ shr_high 1 j (a - 2 ^ j) rest)

-- the greatest bit of a number of so many bits, by its leading zeros
pub highest_bit : (size a : ℕ) → 0 < a → a < 2 ^ size → IsHighest size a (Some (size - 1 - count_leading_zeros size a))
highest_bit size a some small =
    let top = leading_top size a some small in
    let j = top.0 in
    let at : j ≡ size - 1 - count_leading_zeros size a = omega (arith, top.1) in
    subst (λ bit. IsHighest size a (Some bit)) at (omega (arith, top.1), top_bit a j top.2 top.3, λ k l. bit_at_above a (suc j) k top.3 (omega (arith, l)))

-- a bit of both bitmaps is one of either
pub both_bits : (m n k : ℕ) → bit_at (bit_and m n) k ≡ 1 → (bit_at m k ≡ 1) × (bit_at n k ≡ 1)
both_bits m n k h =
    let both : bit_at (bit_and m n) k ≡ min (bit_at m k) (bit_at n k) = bit_at_and m n k in
    let a : bit_at m k < 2 = bit_at-lt m k in
    let b : bit_at n k < 2 = bit_at-lt n k in
    (omega (arith, both, h, a), omega (arith, both, h, b))

-- a bit that is not set is 0
pub clear_bit : (n k : ℕ) → bit_at n k ≢ 1 → bit_at n k ≡ 0
clear_bit n k h =
    let l : bit_at n k < 2 = bit_at-lt n k in
    ⊎_elim (λ e. absurd (h e)) (λ e. omega arith) (cases_order (bit_at n k) 1)
