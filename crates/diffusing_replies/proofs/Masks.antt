-- A bit that is set, and one that is cleared.
use Rattle.std.proofs.Common.{◌≡◌, ℕ, zero, suc, ◌-◌, ◌*◌, ◌%◌, ◌^◌, ◌<◌, ◌≤◌, Bool, true, false, not, ◌&&◌, ◌||◌, ◌==◌, ◌⊎◌, inl, inr, bit_and, bit_or, w32, refl, sym, ◌∙◌, arith}
use Rattle.std.specs.Int.{bit_at}
use Rattle.std.proofs.{lemmas.Bool.eqb-true, lemmas.Bool.eqb-false, lemmas.Bool.cases_lt, lemmas.Nat.and_le_l}
use Rattle.std.proofs.lemmas.Nat.Bits.{bit_at_set_same, bit_at_set_other, bit_at_clear_same, bit_at_clear_other, bit_at_above, bit_at-zero, bit_at-lt, same_from_bits_below}
use Rattle.diffusing_replies.specs.Ports.{is_set}

and-true : (b : Bool) → b ≡ (b && true)
and-true true = refl
and-true false = refl

and-false : (b : Bool) → false ≡ (b && false)
and-false true = refl
and-false false = refl

pub is_set-with : (mask k q : ℕ) → k < 32 → is_set (bit_or mask (1 * 2 ^ k % 4294967296)) q ≡ (q == k || is_set mask q)
is_set-with mask k q below = by_test (q == k) refl
  where
    by_test : (b : Bool) → (q == k) ≡ b → is_set (bit_or mask (1 * 2 ^ k % 4294967296)) q ≡ (b || is_set mask q)
    by_test true same = rw (eqb-true q k same, bit_at_set_same w32 mask k below) refl
    by_test false apart = rw (bit_at_set_other w32 mask k below q (eqb-false q k apart)) refl

-- past the last bit
pub is_set-above : (mask q : ℕ) → mask < 2 ^ 32 → 32 ≤ q → is_set mask q ≡ false
is_set-above mask q whole above = rw (bit_at_above mask 32 q whole above) refl

-- the bit of k is cleared
pub is_set-without : (mask k q : ℕ) → mask < 2 ^ 32 → k < 32 → is_set (bit_and mask (4294967295 - 1 * 2 ^ k % 4294967296)) q ≡ (is_set mask q && not (q == k))
is_set-without mask k q whole below = by_place (cases_lt q 32)
  where
    by_test : (b : Bool) → q < 32 → (q == k) ≡ b → is_set (bit_and mask (4294967295 - 1 * 2 ^ k % 4294967296)) q ≡ (is_set mask q && not b)
    by_test true low same = rw (eqb-true q k same, bit_at_clear_same w32 mask k below) (and-false (is_set mask k))
    by_test false low apart = rw (bit_at_clear_other w32 mask k below q low (eqb-false q k apart)) (and-true (is_set mask q))

    by_place : (q < 32) ⊎ (32 ≤ q) → is_set (bit_and mask (4294967295 - 1 * 2 ^ k % 4294967296)) q ≡ (is_set mask q && not (q == k))
    by_place (inl low) = by_test (q == k) low refl
    by_place (inr above) = is_set-above _ q (omega (arith, and_le_l mask (4294967295 - 1 * 2 ^ k % 4294967296), whole)) above ∙ rw (is_set-above mask q whole above) refl

no_bit : (b : ℕ) → b < 2 → (b == 1) ≡ false → b ≡ 0
no_bit zero below none = refl
no_bit (suc zero) below none = cc
no_bit (suc (suc b)) below none = absurd (omega arith)

-- where no bit is set the mask is 0
pub none_set : (mask : ℕ) → mask < 2 ^ 32 → ((q : ℕ) → is_set mask q ≡ false) → mask ≡ 0
none_set mask whole none = same_from_bits_below 32 mask 0 whole (omega arith) (λ i below. no_bit (bit_at mask i) (bit_at-lt mask i) (none i) ∙ sym (bit_at-zero i))
