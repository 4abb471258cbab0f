-- How ranks grow, and how they move when a bit is set.
use Rattle.std.proofs.Common.{ℕ, zero, suc, ◌≡◌, ◌≢◌, inl, inr, ◌+◌, ◌-◌, ◌*◌, ◌/◌, ◌%◌, ◌^◌, ◌<◌, ◌≤◌, max, bit_or, arith, refl, sym, ap, subst, pow-suc, ◌∙◌}
use Rattle.std.specs.{Int.bit_at, Int.RustNames.count_ones, Int.Count.ones_step}
use Rattle.std.proofs.lemmas.Nat.{ones_cat, ones-le, ones_le_self, pow_pos, mod-pow-add, pow-add, pow_below, shr_split, mod_below, mod_low, or_disjoint, or_lt}
use Rattle.std.proofs.lemmas.Nat.Bits.{and_pow, bit_at-lt, bit_at_or, bit_at-pow_same, bit_at-pow_other, bit_at_cat_low}
use Rattle.std.proofs.{lemmas.Bool.cases_lt, Math.Pow.mod-mod-pow, Math.Nat.add-div_right, Math.Nat.add-mul-mod_self_right}
use Rattle.bitmaps.specs.Bits.{rank}

-- no bit of 0 is set
pub ones_of_zero : count_ones 0 ≡ 0
unfolding count_ones
ones_of_zero = refl

-- all bits are those above and those below
pub ones_split_at : (n k : ℕ) → count_ones n ≡ count_ones (n / 2 ^ k) + rank n k
ones_split_at n k =
    let e : n / 2 ^ k * 2 ^ k + n % 2 ^ k ≡ n = shr_split n k in
    ap count_ones (sym e) ∙ ones_cat k (n / 2 ^ k) (n % 2 ^ k) (mod_below n (2 ^ k) (pow_pos k))

-- an odd number has its lowest bit
ones_odd : (m : ℕ) → m % 2 ≡ 1 → 1 ≤ count_ones m
ones_odd m h = omega (arith, ones_step m)

-- the next number after an even one
ones_even : (m : ℕ) → m % 2 ≡ 0 → count_ones (m + 1) ≡ count_ones m + 1
ones_even m h =
    let half : (m + 1) / 2 ≡ m / 2 = omega arith in
    let low : (m + 1) % 2 ≡ 1 = omega arith in
    omega (arith, ones_step m, ones_step (m + 1), ap count_ones half, low)

-- the rank of a set bit is below the number of set bits
pub rank_lt : (n k : ℕ) → bit_at n k ≡ 1 → rank n k < count_ones n
rank_lt n k h = omega (arith, ones_split_at n k, ones_odd (n / 2 ^ k) h)

-- no rank is above the number of set bits
pub rank_le : (n k : ℕ) → rank n k ≤ count_ones n
rank_le n k = omega (arith, ones_split_at n k)

-- the rank of bit k is at most k
pub rank_small : (n k : ℕ) → rank n k ≤ k
rank_small n k = ones-le k (n % 2 ^ k) (mod_below n (2 ^ k) (pow_pos k))

-- a number below a place, cut off at the place, keeps its bits there
bit_at-mod : (n i k : ℕ) → k < i → bit_at (n % 2 ^ i) k ≡ bit_at n k
bit_at-mod n i k h =
    sym (bit_at_cat_low (n / 2 ^ i) i (n % 2 ^ i) k h) ∙ ap (λ m. bit_at m k) (shr_split n i)

-- the lowest bits of the lowest bits
mod-mod : (n i k : ℕ) → k ≤ i → n % 2 ^ i % 2 ^ k ≡ n % 2 ^ k
mod-mod n i k h =
    let e : i - k + k ≡ i = omega arith in
    subst (λ m. n % 2 ^ m % 2 ^ k ≡ n % 2 ^ k) e (mod-mod-pow n (i - k) k)

-- a bit above a set bit has a greater rank
pub rank_mono_lt : (n i j : ℕ) → i < j → bit_at n i ≡ 1 → rank n i < rank n j
rank_mono_lt n i j l h =
    let e : rank (n % 2 ^ j) i ≡ rank n i = ap count_ones (mod-mod n j i (omega arith)) in
    omega (arith, e, rank_lt (n % 2 ^ j) i (bit_at-mod n j i l ∙ h))

-- ranks do not fall
pub rank_mono : (n i j : ℕ) → i ≤ j → rank n i ≤ rank n j
rank_mono n i j l =
    let e : rank (n % 2 ^ j) i ≡ rank n i = ap count_ones (mod-mod n j i l) in
    omega (arith, e, rank_le (n % 2 ^ j) i)

-- ---- one bit more
pub or_is_add : (n k : ℕ) → bit_at n k ≡ 0 → bit_or n (2 ^ k) ≡ n + 2 ^ k
or_is_add n k h =
    let z : 0 * 2 ^ k ≡ 0 = omega arith in
    or_disjoint n (2 ^ k) (and_pow n k ∙ ap (λ b. b * 2 ^ k) h ∙ z)

-- the new bit is set
pub bit_at-add_same : (n k : ℕ) → bit_at n k ≡ 0 → bit_at (n + 2 ^ k) k ≡ 1
bit_at-add_same n k h =
    ap (λ m. bit_at m k) (sym (or_is_add n k h)) ∙ bit_at_or n (2 ^ k) k
    ∙ ap (λ b. max b (bit_at (2 ^ k) k)) h ∙ ap (λ b. max 0 b) (bit_at-pow_same k)

-- the other bits stay
pub bit_at-add_other : (n k i : ℕ) → bit_at n k ≡ 0 → i ≢ k → bit_at (n + 2 ^ k) i ≡ bit_at n i
bit_at-add_other n k i h ne =
    let m : bit_at (bit_or n (2 ^ k)) i ≡ max (bit_at n i) (bit_at (2 ^ k) i) = bit_at_or n (2 ^ k) i in
    ap (λ m. bit_at m i) (sym (or_is_add n k h)) ∙ omega (arith, m, bit_at-pow_other k i ne)

-- one bit more is set
pub ones-add : (n k : ℕ) → bit_at n k ≡ 0 → count_ones (n + 2 ^ k) ≡ count_ones n + 1
ones-add n k h =
    let high : (n + 2 ^ k) / 2 ^ k ≡ n / 2 ^ k + 1 = add-div_right n (pow_pos k) in
    let low : (n + 2 ^ k) % 2 ^ k ≡ n % 2 ^ k =
    let e : 2 ^ k ≡ 1 * 2 ^ k = omega arith in
    ap (λ m. (n + m) % 2 ^ k) e ∙ add-mul-mod_self_right n 1 (2 ^ k) in
    omega (arith, ones_split_at (n + 2 ^ k) k, ones_split_at n k, ap count_ones high, ap count_ones low, ones_even (n / 2 ^ k) h)

-- the number still has i bits
pub add_lt : (n k i : ℕ) → n < 2 ^ i → k < i → bit_at n k ≡ 0 → n + 2 ^ k < 2 ^ i
add_lt n k i l q h = subst (λ m. m < 2 ^ i) (or_is_add n k h) (or_lt i n (2 ^ k) l (pow_below k i q))

-- ranks up to the new bit stay
pub rank-add_below : (n k i : ℕ) → bit_at n k ≡ 0 → i ≤ k → rank (n + 2 ^ k) i ≡ rank n i
rank-add_below n k i h l =
    let s : k - i + i ≡ k = omega arith in
    let e : 2 ^ k ≡ 2 ^ (k - i) * 2 ^ i = ap (λ m. 2 ^ m) (sym s) ∙ pow-add 2 (k - i) i in
    ap count_ones (ap (λ m. (n + m) % 2 ^ i) e ∙ add-mul-mod_self_right n (2 ^ (k - i)) (2 ^ i))

-- ranks above the new bit are one more
pub rank-add_above : (n k i : ℕ) → bit_at n k ≡ 0 → k < i → rank (n + 2 ^ k) i ≡ rank n i + 1
rank-add_above n k i h l =
    let clear : bit_at (n % 2 ^ i) k ≡ 0 = bit_at-mod n i k l ∙ h in
    let fits : n % 2 ^ i + 2 ^ k < 2 ^ i = add_lt (n % 2 ^ i) k i (mod_below n (2 ^ i) (pow_pos i)) l clear in
    let cut : (n + 2 ^ k) % 2 ^ i ≡ n % 2 ^ i + 2 ^ k =
    ap (λ m. m % 2 ^ i) (omega (arith, shr_split n i)) ∙ mod_low (n / 2 ^ i) i (n % 2 ^ i + 2 ^ k) fits in
    ap count_ones cut ∙ ones-add (n % 2 ^ i) k clear

-- ---- the bit of a rank

-- a bit counts as itself
ones_of_bit : (b : ℕ) → b < 2 → count_ones b ≡ b
ones_of_bit b l = let half : b / 2 ≡ 0 = omega arith in omega (arith, ones_step b, ap count_ones half, ones_le_self 0)

-- the next rank counts the bit
rank_next : (n k : ℕ) → rank n (1 + k) ≡ bit_at n k + rank n k
rank_next n k =
    ap count_ones (mod-pow-add n 1 k) ∙ ones_cat k (bit_at n k) (n % 2 ^ k) (mod_below n (2 ^ k) (pow_pos k))
    ∙ ap (λ b. b + rank n k) (ones_of_bit (bit_at n k) (bit_at-lt n k))

-- of the bits below a place, one has each rank below that of the place
select_below : (n t m : ℕ) → t < rank n m → (k : ℕ) × (bit_at n k ≡ 1) × (rank n k ≡ t)
select_below n t zero l = absurd (omega (arith, l, rank_small n 0))
select_below n t (suc m) l =
    let next : suc m ≡ 1 + m = omega arith in
    let step = ap (rank n) next ∙ rank_next n m in
    elim (cases_lt t (rank n m)) [
      | inl below ↦ select_below n t m below
      | inr past ↦ (m, omega (arith, l, step, past, bit_at-lt n m), omega (arith, l, step, past, bit_at-lt n m))
    ]

-- a number has no more bits than it counts
below_pow : (n : ℕ) → n < 2 ^ n
below_pow zero = omega arith
below_pow (suc n) = omega (arith, below_pow n, pow-suc 2 n)

-- each rank below the number of set bits is that of a set bit
pub select : (n t : ℕ) → t < count_ones n → (k : ℕ) × (bit_at n k ≡ 1) × (rank n k ≡ t)
select n t l =
    let whole : 0 * 2 ^ n + n ≡ n = omega arith in
    let all : n % 2 ^ n ≡ n = ap (λ m. m % 2 ^ n) (sym whole) ∙ mod_low 0 n n (below_pow n) in
    select_below n t n (subst (λ m. t < count_ones m) (sym all) l)
