use Rattle.std.proofs.Common.{ℕ, ◌≡◌, ◌-◌, ◌*◌, ◌%◌, ◌^◌, ◌<◌, bit_and, bit_xor, arith, ap, sym, ◌∙◌}
use Rattle.std.specs.Int.Bits.{xor_assoc, xor_self, xor_zero_l}
use Rattle.std.proofs.lemmas.Nat.{and_mask, xor_lt}
use Rattle.array_bitmap.proofs.bits.chosen.Goals as goal

-- all of the difference
all_of_it : (x y mask : ℕ) → mask ≡ 2 ^ 32 - 1 → x < 2 ^ 32 → y < 2 ^ 32 → bit_xor x (bit_and (bit_xor x y) mask) ≡ y
all_of_it x y mask m a b =
    let small : bit_xor x y < 2 ^ 32 = xor_lt 32 x y a b in
    let same : bit_xor x y % 2 ^ 32 ≡ bit_xor x y = omega (arith, small) in
    ap (λ k. bit_xor x (bit_and (bit_xor x y) k)) m ∙ ap (bit_xor x) (and_mask (bit_xor x y) 32 ∙ same)
    ∙ sym (xor_assoc x x y) ∙ ap (λ z. bit_xor z y) (xor_self x) ∙ xor_zero_l y

pub returns-clause-one : goal.returns-clause-one
returns-clause-one c = λ e. all_of_it c.args.other c.args.one (c.args.pick * 4294967295) (omega (arith, e)) (omega (arith, c.ranges.other)) (omega (arith, c.ranges.one))
