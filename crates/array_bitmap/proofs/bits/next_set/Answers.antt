use Rattle.std.proofs.Common.{ℕ, ◌≡◌, ◌*◌, ◌/◌, ◌%◌, ◌^◌, ◌<◌, ◌≤◌, arith, sym, subst}
use Rattle.std.specs.{Int.bit_at, Int.Count.count_trailing_zeros}
use Rattle.std.proofs.Math.Nat.{div-mul-le_self}
use Rattle.array_bitmap.proofs.NextSpots.{next_bit}
use Rattle.array_bitmap.proofs.bits.next_set.Goals as goal

-- no bit is shifted out
whole : (bits from : ℕ) → bits < 2 ^ 64 → bits / 2 ^ from * 2 ^ from % 18446744073709551616 ≡ bits / 2 ^ from * 2 ^ from
whole bits from small = omega (arith, small, div-mul-le_self bits (2 ^ from))

pub returns-clause-from : goal.returns-clause-from
returns-clause-from c =
    let small : c.args.bits < 2 ^ 64 = omega (arith, c.ranges.bits) in
    subst (λ n. c.args.from ≤ count_trailing_zeros 64 n) (sym (whole c.args.bits c.args.from small)) (next_bit c.args.bits c.args.from small c.requires).0

pub returns-clause-none : goal.returns-clause-none
returns-clause-none c =
    let small : c.args.bits < 2 ^ 64 = omega (arith, c.ranges.bits) in
    subst (λ n. (k : ℕ) → c.args.from ≤ k → k < count_trailing_zeros 64 n → bit_at c.args.bits k ≡ 0) (sym (whole c.args.bits c.args.from small)) (next_bit c.args.bits c.args.from small c.requires).1
