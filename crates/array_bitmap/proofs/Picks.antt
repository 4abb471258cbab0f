-- Values that are picked by a bit, without a branch.
use Rattle.std.proofs.Common.{ℕ, ◌≡◌, ◌≢◌, inl, inr, ◌*◌, ◌<◌, ◌≤◌, arith, ap, ◌∙◌, eqb, not}
use Rattle.std.specs.Int.{from_bool}
use Rattle.std.proofs.lemmas.Bool.{cases_eq, eq-eqb, ne_eqb}

-- a number times a bit: the number, or 0
pub times_one : (n bit : ℕ) → bit ≡ 1 → n * bit ≡ n
times_one n bit e = let p : n * bit ≡ n * 1 = ap (λ b. n * b) e in omega (arith, p)

pub times_zero : (n bit : ℕ) → bit ≡ 0 → n * bit ≡ 0
times_zero n bit e = let p : n * bit ≡ n * 0 = ap (λ b. n * b) e in omega (arith, p)

pub times_bit : (n bit : ℕ) → bit < 2 → n * bit ≤ n
times_bit n bit two = elim (cases_eq bit 1) [
  | inl e ↦ omega (arith, times_one n bit e)
  | inr z ↦ omega (arith, times_zero n bit (omega (arith, two, z)))
]

-- an index times a bit is within a block, if the index is where the bit is 1
pub picked_inside : (index bit size : ℕ) → bit < 2 → 0 < size → (bit ≡ 1 → index < size) → index * bit < size
picked_inside index bit size two some inside = elim (cases_eq bit 1) [
  | inl e ↦ omega (arith, times_one index bit e, inside e)
  | inr z ↦ omega (arith, times_zero index bit (omega (arith, two, z)), some)
]

-- the bit of a test for 0
pub pick_none : (n pick : ℕ) → pick ≡ from_bool (not (eqb n 0)) → n ≡ 0 → pick ≡ 0
pick_none n pick p e = p ∙ ap (λ b. from_bool (not b)) (eq-eqb n 0 e)

pub pick_some : (n pick : ℕ) → pick ≡ from_bool (not (eqb n 0)) → n ≢ 0 → pick ≡ 1
pick_some n pick p h = p ∙ ap (λ b. from_bool (not b)) (ne_eqb n 0 h)
