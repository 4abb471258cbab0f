use Rattle.std.proofs.Common.{ℕ, ◌≡◌, ◌-◌, ◌^◌, ◌<◌, ◌≤◌, bit_or, Some, arith, ap, sym, subst, ◌∙◌}
use Rattle.std.specs.{Int.Count.count_leading_zeros, Int.Count.leading_unique, Int.Bits.or_zero_l}
use Rattle.std.proofs.lemmas.Nat.{leading_top, leading_length, or_lt, le_or_l, le_or_r}
use Rattle.bitmaps.specs.Bits.{IsHighest}
use Rattle.bitmaps.proofs.HighestBit.{highest_bit}
use Rattle.array_bitmap.proofs.bits.highest.Goals as goal

-- the lowest bit is set, so not all 64 are zeros
few_zeros : (a : ℕ) → a < 2 ^ 64 → count_leading_zeros 64 (bit_or a 1) ≤ 63
few_zeros a small =
    let some : 1 ≤ bit_or a 1 = le_or_r a 1 in
    let top = leading_top 64 (bit_or a 1) (omega (arith, some)) (or_lt 64 a 1 small (omega arith)) in
    omega (arith, top.1)

-- no bit but that
zeros_of_one : (a : ℕ) → a ≡ 0 → count_leading_zeros 64 (bit_or a 1) ≡ 63
zeros_of_one a e =
    let one : bit_or a 1 ≡ 1 = ap (λ n. bit_or n 1) e ∙ or_zero_l 1 in
    ap (count_leading_zeros 64) one ∙ sym (leading_unique 64 1 63 1 (omega arith) (omega arith) (omega arith))

-- the lowest bit is no greatest one where there are others
zeros_with_one : (a : ℕ) → 0 < a → a < 2 ^ 64 → count_leading_zeros 64 (bit_or a 1) ≡ count_leading_zeros 64 a
zeros_with_one a some small =
    let l = leading_length 64 a small in
    sym (leading_unique 64 (bit_or a 1) (count_leading_zeros 64 a) l.0 l.1 (or_lt l.0 a 1 l.2 (omega (arith, some, l.2))) (omega (arith, l.3, le_or_l a 1)))

pub overflow_sub-result : goal.overflow_sub-result
overflow_sub-result c = omega (arith, few_zeros c.args.bits (omega (arith, c.ranges.bits)))

pub returns-clause-none : goal.returns-clause-none
returns-clause-none c = λ e. omega (arith, zeros_of_one c.args.bits e)

pub returns-clause-some : goal.returns-clause-some
returns-clause-some c = λ n.
    let a = c.args.bits in
    let some : 0 < c.args.bits = omega (arith, n) in
    let small : c.args.bits < 2 ^ 64 = omega (arith, c.ranges.bits) in
    subst (λ z. IsHighest 64 a (Some (63 - z))) (sym (zeros_with_one c.args.bits some small)) (highest_bit 64 c.args.bits some small)
