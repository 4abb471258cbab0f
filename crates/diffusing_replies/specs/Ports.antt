-- Sets of ports, and how a number of 32 bits stands for one.
use Rattle.std.specs.{Int.bit_at, List.list_any, List.range_with_len, Ordering.nat_cmp}
use Rattle.std.specs.FinSet.{FinSet, contains, retain, from_list, contains-retain, contains-from_list_nat, nat_cmp-IsAntisymmetric}
use Rattle.std.proofs.Common.{◌⊎◌, inl, inr, arith, ap, sym, subst, ◌∙◌, ◌≡◌, ℕ, zero, suc, ◌+◌, ◌-◌, ◌*◌, ◌^◌, ◌<◌, ◌≤◌, Bool, true, false, ◌&&◌, ◌||◌, ◌==◌, nat_eq, if◌then◌else◌, refl}
use Rattle.std.proofs.{Math.Bool.and-false, lemmas.Bool.eqb-false, lemmas.Bool.cases_lt}
use Rattle.std.proofs.lemmas.Nat.Bits.{bit_at-lt, bit_at_above, bit_at_cat_low, bit_at_cat_high, same_from_bits_below}

-- a set of ports
abbrev pub Ports : Type 0
Ports = FinSet nat_cmp

-- whether a port's bit is set
abbrev pub is_set : ℕ → ℕ → Bool
is_set mask q = bit_at mask q == 1

-- the ports below 32
unfoldable pub all_ports : Ports
all_ports = from_list (range_with_len 0 32)

-- those of them whose bits are set
unfoldable pub ports_of : ℕ → Ports
ports_of mask = retain all_ports (is_set mask)

-- the bit of a port in a set
abbrev pub bit_of : Ports → ℕ → ℕ
bit_of s q = if contains s q then 1 else 0

-- the number whose bits below n are those of a set
abbrev pub mask_below : Ports → ℕ → ℕ
mask_below s zero = 0
mask_below s (suc n) = bit_of s n * 2 ^ n + mask_below s n

-- the mask of a set
unfoldable pub mask_of : Ports → ℕ
mask_of s = mask_below s 32

-- ---- what the mask says is what the set has

bit_of-lt : (s : Ports) (q : ℕ) → bit_of s q < 2
bit_of-lt s q = by_test (contains s q)
  where
    by_test : (b : Bool) → (if b then 1 else 0) < 2
    by_test true = omega arith
    by_test false = omega arith

mask_below-lt : (s : Ports) (n : ℕ) → mask_below s n < 2 ^ n
mask_below-lt s zero = omega arith
mask_below-lt s (suc n) = by_test (contains s n) (mask_below-lt s n)
  where
    by_test : (b : Bool) → mask_below s n < 2 ^ n → (if b then 1 else 0) * 2 ^ n + mask_below s n < 2 ^ suc n
    by_test true lower = omega (arith, lower)
    by_test false lower = omega (arith, lower)

small_bit : (a : ℕ) → a < 2 → bit_at a 0 ≡ a
small_bit zero below = refl
small_bit (suc zero) below = refl
small_bit (suc (suc a)) below = absurd (omega arith)

bit_at-mask_below : (s : Ports) (n i : ℕ) → i < n → bit_at (mask_below s n) i ≡ bit_of s i
bit_at-mask_below s zero i below = absurd (omega arith)
bit_at-mask_below s (suc n) i below = by_place (cases_lt i n) (bit_at-mask_below s n i)
  where
    by_place : (i < n) ⊎ (n ≤ i) → (i < n → bit_at (mask_below s n) i ≡ bit_of s i) → bit_at (bit_of s n * 2 ^ n + mask_below s n) i ≡ bit_of s i
    by_place (inl lower) so = bit_at_cat_low (bit_of s n) n (mask_below s n) i lower ∙ so lower
    by_place (inr upper) so =
        let same : i ≡ n = omega arith in
        let lowest : n - n ≡ 0 = omega arith in
        subst (λ k. bit_at (bit_of s n * 2 ^ n + mask_below s n) k ≡ bit_of s k) (sym same)
        (bit_at_cat_high (bit_of s n) n (mask_below s n) n (mask_below-lt s n) (omega arith) ∙ ap (bit_at (bit_of s n)) lowest ∙ small_bit (bit_of s n) (bit_of-lt s n))

is_among : (q a n : ℕ) → a ≤ q → q < a + n → list_any (λ y. nat_eq y q) (range_with_len a n) ≡ true
is_among q a zero low high = absurd (omega arith)
is_among q a (suc n) low high = by_test (nat_eq a q) refl (λ above. is_among q (a + 1) n above (omega arith))
  where
    by_test : (b : Bool) → nat_eq a q ≡ b → (a + 1 ≤ q → list_any (λ y. nat_eq y q) (range_with_len (a + 1) n) ≡ true) → (b || list_any (λ y. nat_eq y q) (range_with_len (a + 1) n)) ≡ true
    by_test true here rest = refl
    by_test false here rest = let apart = eqb-false a q here in rest (omega arith)

pub contains-ports_of : (mask : ℕ) → mask < 2 ^ 32 → (q : ℕ) → contains (ports_of mask) q ≡ is_set mask q
unfolding ports_of all_ports
contains-ports_of mask whole q =
    contains-retain all_ports (is_set mask) q (λ x tied. ap (is_set mask) (sym (nat_cmp-IsAntisymmetric q x tied)))
    ∙ ap (λ b. b && is_set mask q) (contains-from_list_nat (range_with_len 0 32) q)
    ∙ by_place (cases_lt q 32)
  where
    by_place : (q < 32) ⊎ (32 ≤ q) → (list_any (λ y. nat_eq y q) (range_with_len 0 32) && is_set mask q) ≡ is_set mask q
    by_place (inl below) = ap (λ b. b && is_set mask q) (is_among q 0 32 (omega arith) (omega arith))
    by_place (inr above) = rw (bit_at_above mask 32 q whole above) (and-false (list_any (λ y. nat_eq y q) (range_with_len 0 32)))

-- a set gives its mask back
pub mask_of-ports_of : (mask : ℕ) → mask < 2 ^ 32 → mask_of (ports_of mask) ≡ mask
unfolding mask_of
mask_of-ports_of mask whole = same_from_bits_below 32 (mask_below (ports_of mask) 32) mask (mask_below-lt (ports_of mask) 32) whole
    (λ i below. bit_at-mask_below (ports_of mask) 32 i below ∙ ap (λ b. if b then 1 else 0) (contains-ports_of mask whole i) ∙ as_bit (bit_at mask i) (bit_at-lt mask i))
  where
    as_bit : (b : ℕ) → b < 2 → (if b == 1 then 1 else 0) ≡ b
    as_bit zero below = refl
    as_bit (suc zero) below = refl
    as_bit (suc (suc b)) below = absurd (omega arith)
