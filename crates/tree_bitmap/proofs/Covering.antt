-- The longest prefix of an address that ends in a node.
use Rattle.std.proofs.Common.{ℕ, zero, suc, ◌≡◌, ◌⊎◌, inl, inr, ⊎_elim, ◌↔◌, ◌+◌, ◌/◌, ◌^◌, ◌<◌, ◌≤◌, max, bit_and, bit_or, [], ◌∷◌, slice_index_or, Bool, true, ◌==◌, ◌&&◌, Option, Some, None, arith, refl, sym, ap, ◌∙◌}
use Rattle.std.specs.Int.{bit_at}
use Rattle.std.proofs.lemmas.Bool.{cases_eq, lt-ltb, le-ltb, and_parts, eqb-true}
use Rattle.std.proofs.lemmas.Nat.Bits.{bit_at-zero, bit_at-lt, bit_at_and, bit_at_or, bit_at-pow_same, bit_at-pow_other}
use Rattle.bitmaps.specs.{Greatest.GreatestBelow, Bits.IsHighest}
use Rattle.bitmaps.proofs.HighestBit.{both_bits}
use Rattle.tree_bitmap.specs.{Bits.internal_bit, Bits.length_of, Bits.lengths_within, Hit.bit_place, Tree.result_place, declared.node.Node.Node}
use Rattle.tree_bitmap.proofs.{FirstBits.internal_bit_small, Paths.place-set, Paths.place-clear}

-- ---- bits of covering prefixes

-- a power of two has one bit
one_bit : (i k : ℕ) → ((k ≡ i) × (bit_at (2 ^ i) k ≡ 1)) ⊎ ((k ≡ i → ⊥) × (bit_at (2 ^ i) k ≡ 0))
one_bit i k = elim (cases_eq k i) [
  | inl same ↦ inl (same, ap (bit_at (2 ^ i)) same ∙ bit_at-pow_same i)
  | inr apart ↦ inr (apart, bit_at-pow_other i k apart)
]

-- bit k of the bitmap with the bits 0, a, b and c
abbrev four_bits : ℕ → ℕ → ℕ → ℕ
four_bits a b c = bit_or (bit_or (bit_or 1 (2 ^ a)) (2 ^ b)) (2 ^ c)

four_bits_at : (a b c k : ℕ) → bit_at (four_bits a b c) k ≡ max (max (max (bit_at (2 ^ 0) k) (bit_at (2 ^ a) k)) (bit_at (2 ^ b) k)) (bit_at (2 ^ c) k)
four_bits_at a b c k =
    bit_at_or (bit_or (bit_or 1 (2 ^ a)) (2 ^ b)) (2 ^ c) k
    ∙ ap (λ m. max m (bit_at (2 ^ c) k)) (bit_at_or (bit_or 1 (2 ^ a)) (2 ^ b) k)
    ∙ ap (λ m. max (max m (bit_at (2 ^ b) k)) (bit_at (2 ^ c) k)) (bit_at_or 1 (2 ^ a) k)

-- it is set where k is one of them
pub four_bits_set : (a b c k : ℕ) → bit_at (four_bits a b c) k ≡ 1 → (k ≡ 0) ⊎ ((k ≡ a) ⊎ ((k ≡ b) ⊎ (k ≡ c)))
four_bits_set a b c k h = by_first (one_bit 0 k)
  where
    by_last : bit_at (2 ^ 0) k ≡ 0 → bit_at (2 ^ a) k ≡ 0 → bit_at (2 ^ b) k ≡ 0 → ((k ≡ c) × (bit_at (2 ^ c) k ≡ 1)) ⊎ ((k ≡ c → ⊥) × (bit_at (2 ^ c) k ≡ 0)) → (k ≡ 0) ⊎ ((k ≡ a) ⊎ ((k ≡ b) ⊎ (k ≡ c)))
    by_last x y z (inl w) = inr (inr (inr w.0))
    by_last x y z (inr w) = absurd (omega (arith, x, y, z, w.1, h, four_bits_at a b c k))

    by_third : bit_at (2 ^ 0) k ≡ 0 → bit_at (2 ^ a) k ≡ 0 → ((k ≡ b) × (bit_at (2 ^ b) k ≡ 1)) ⊎ ((k ≡ b → ⊥) × (bit_at (2 ^ b) k ≡ 0)) → (k ≡ 0) ⊎ ((k ≡ a) ⊎ ((k ≡ b) ⊎ (k ≡ c)))
    by_third x y (inl z) = inr (inr (inl z.0))
    by_third x y (inr z) = by_last x y z.1 (one_bit c k)

    by_second : bit_at (2 ^ 0) k ≡ 0 → ((k ≡ a) × (bit_at (2 ^ a) k ≡ 1)) ⊎ ((k ≡ a → ⊥) × (bit_at (2 ^ a) k ≡ 0)) → (k ≡ 0) ⊎ ((k ≡ a) ⊎ ((k ≡ b) ⊎ (k ≡ c)))
    by_second x (inl y) = inr (inl y.0)
    by_second x (inr y) = by_third x y.1 (one_bit b k)

    by_first : ((k ≡ 0) × (bit_at (2 ^ 0) k ≡ 1)) ⊎ ((k ≡ 0 → ⊥) × (bit_at (2 ^ 0) k ≡ 0)) → (k ≡ 0) ⊎ ((k ≡ a) ⊎ ((k ≡ b) ⊎ (k ≡ c)))
    by_first (inl x) = inl x.0
    by_first (inr x) = by_second x.1 (one_bit a k)

-- it is set at each of them
pub four_bits_has : (a b c k : ℕ) → (k ≡ 0) ⊎ ((k ≡ a) ⊎ ((k ≡ b) ⊎ (k ≡ c))) → bit_at (four_bits a b c) k ≡ 1
four_bits_has a b c k is = by_case is
  where
    least : 1 ≤ bit_at (four_bits a b c) k → bit_at (four_bits a b c) k ≡ 1
    least h = let l : bit_at (four_bits a b c) k < 2 = bit_at-lt (four_bits a b c) k in omega (arith, h, l)

    by_case : (k ≡ 0) ⊎ ((k ≡ a) ⊎ ((k ≡ b) ⊎ (k ≡ c))) → bit_at (four_bits a b c) k ≡ 1
    by_case (inl e) = least (let h : bit_at (2 ^ 0) k ≡ 1 = ap (bit_at (2 ^ 0)) e ∙ bit_at-pow_same 0 in omega (arith, h, four_bits_at a b c k))
    by_case (inr (inl e)) = least (let h : bit_at (2 ^ a) k ≡ 1 = ap (bit_at (2 ^ a)) e ∙ bit_at-pow_same a in omega (arith, h, four_bits_at a b c k))
    by_case (inr (inr (inl e))) = least (let h : bit_at (2 ^ b) k ≡ 1 = ap (bit_at (2 ^ b)) e ∙ bit_at-pow_same b in omega (arith, h, four_bits_at a b c k))
    by_case (inr (inr (inr e))) = least (let h : bit_at (2 ^ c) k ≡ 1 = ap (bit_at (2 ^ c)) e ∙ bit_at-pow_same c in omega (arith, h, four_bits_at a b c k))

-- the internal bits that four bits of an address begin with are these four
pub covers_four : (four depth k : ℕ) → four < 16 → depth < 8
    → bit_at (four_bits (1 + four / 2 ^ 3) (3 + four / 2 ^ 2) (7 + four / 2 ^ 1)) k ≡ 1 ↔ ((len : ℕ) × (len < lengths_within depth) × (k ≡ internal_bit four len))
covers_four four depth k small deep = (λ h. to (four_bits_set (1 + four / 2 ^ 3) (3 + four / 2 ^ 2) (7 + four / 2 ^ 1) k h), λ h. four_bits_has (1 + four / 2 ^ 3) (3 + four / 2 ^ 2) (7 + four / 2 ^ 1) k (from h.0 h.1 h.2))
  where
    to : (k ≡ 0) ⊎ ((k ≡ 1 + four / 2 ^ 3) ⊎ ((k ≡ 3 + four / 2 ^ 2) ⊎ (k ≡ 7 + four / 2 ^ 1))) → (len : ℕ) × (len < lengths_within depth) × (k ≡ internal_bit four len)
    to (inl e) = (0, omega arith, omega arith)
    to (inr (inl e)) = (1, omega arith, omega arith)
    to (inr (inr (inl e))) = (2, omega arith, omega arith)
    to (inr (inr (inr e))) = (3, omega arith, omega arith)

    from : (len : ℕ) → len < lengths_within depth → k ≡ internal_bit four len → (k ≡ 0) ⊎ ((k ≡ 1 + four / 2 ^ 3) ⊎ ((k ≡ 3 + four / 2 ^ 2) ⊎ (k ≡ 7 + four / 2 ^ 1)))
    from zero l e = inl (omega arith)
    from (suc zero) l e = inr (inl (omega arith))
    from (suc (suc zero)) l e = inr (inr (inl (omega arith)))
    from (suc (suc (suc zero))) l e = inr (inr (inr (omega arith)))
    from (suc (suc (suc (suc n)))) l e = absurd (omega arith)

-- the table has them: each entry is computed
abbrev table : ℕ → ℕ
table four = slice_index_or (139 ∷ 139 ∷ 267 ∷ 267 ∷ 531 ∷ 531 ∷ 1043 ∷ 1043 ∷ 2085 ∷ 2085 ∷ 4133 ∷ 4133 ∷ 8261 ∷ 8261 ∷ 16453 ∷ 16453 ∷ []) four 0

abbrev computed : ℕ → ℕ
computed four = four_bits (1 + four / 2 ^ 3) (3 + four / 2 ^ 2) (7 + four / 2 ^ 1)

abbrev agree_below : ℕ → Bool
agree_below zero = true
agree_below (suc n) = (table n == computed n) && agree_below n

agree_at : (n : ℕ) → agree_below n ≡ true → (k : ℕ) → k < n → table k ≡ computed k
agree_at zero e k h = absurd (omega (arith, h))
agree_at (suc n) e k h =
    let parts = and_parts (table n == computed n) (agree_below n) e in
    ⊎_elim (λ same. ap table same ∙ eqb-true (table n) (computed n) parts.0 ∙ ap computed (sym same)) (λ apart. agree_at n parts.1 k (omega (arith, h, apart))) (cases_eq k n)

pub table_entry : (four : ℕ) → four < 16 → table four ≡ computed four
table_entry = agree_at 16 refl

-- at depth 8 it is the first alone
pub covers_one : (four k : ℕ) → four < 16 → bit_at 1 k ≡ 1 ↔ ((len : ℕ) × (len < lengths_within 8) × (k ≡ internal_bit four len))
covers_one four k small = (to (one_bit 0 k), λ h. from h.0 h.1 h.2)
  where
    to : ((k ≡ 0) × (bit_at (2 ^ 0) k ≡ 1)) ⊎ ((k ≡ 0 → ⊥) × (bit_at (2 ^ 0) k ≡ 0)) → bit_at 1 k ≡ 1 → (len : ℕ) × (len < lengths_within 8) × (k ≡ internal_bit four len)
    to (inl x) h = (0, omega arith, omega (arith, x.0))
    to (inr x) h = absurd (let z : bit_at 1 k ≡ 0 = x.1 in omega (arith, z, h))

    from : (len : ℕ) → len < lengths_within 8 → k ≡ internal_bit four len → bit_at 1 k ≡ 1
    from zero l e = let z : k ≡ 0 = omega arith in ap (bit_at 1) z ∙ bit_at-pow_same 0
    from (suc n) l e = absurd (omega arith)

-- ---- lengths

-- a prefix's internal bit tells its length
pub length_of-internal : (bit four len : ℕ) → four < 16 → len < 4 → bit ≡ internal_bit four len → length_of bit ≡ len
length_of-internal bit four zero h l e = rw (lt-ltb bit 1 (omega arith)) refl
length_of-internal bit four (suc zero) h l e = rw (le-ltb bit 1 (omega arith), lt-ltb bit 3 (omega arith)) refl
length_of-internal bit four (suc (suc zero)) h l e = rw (le-ltb bit 1 (omega arith), le-ltb bit 3 (omega arith), lt-ltb bit 7 (omega arith)) refl
length_of-internal bit four (suc (suc (suc zero))) h l e = rw (le-ltb bit 1 (omega arith), le-ltb bit 3 (omega arith), le-ltb bit 7 (omega arith)) refl
length_of-internal bit four (suc (suc (suc (suc n)))) h l e = absurd (omega arith)

-- a longer prefix has a greater bit
longer_is_greater : (four l m : ℕ) → four < 16 → l < m → m < 4 → internal_bit four l < internal_bit four m
longer_is_greater four zero zero h a b = absurd (omega arith)
longer_is_greater four zero (suc zero) h a b = omega arith
longer_is_greater four zero (suc (suc zero)) h a b = omega arith
longer_is_greater four zero (suc (suc (suc zero))) h a b = omega arith
longer_is_greater four (suc zero) (suc (suc zero)) h a b = omega arith
longer_is_greater four (suc zero) (suc (suc (suc zero))) h a b = omega arith
longer_is_greater four (suc (suc zero)) (suc (suc (suc zero))) h a b = omega arith
longer_is_greater four (suc l) zero h a b = absurd (omega arith)
longer_is_greater four (suc l) (suc zero) h a b = absurd (omega arith)
longer_is_greater four (suc (suc l)) (suc (suc zero)) h a b = absurd (omega arith)
longer_is_greater four (suc (suc (suc l))) (suc (suc (suc zero))) h a b = absurd (omega arith)
longer_is_greater four l (suc (suc (suc (suc n)))) h a b = absurd (omega arith)

-- ---- the longest prefix in a node

module _ (a : Node) (four depth cover : ℕ) (small : four < 16)
    (covered : (k : ℕ) → k < 16 → bit_at cover k ≡ 1 ↔ ((len : ℕ) × (len < lengths_within depth) × (k ≡ internal_bit four len))) where
  -- at most four lengths end in a node
  few : lengths_within depth ≤ 4
  few = omega arith

  -- a covering prefix has its result where its bit is one of those masked
  masked : (len : ℕ) → len < lengths_within depth → bit_at a.internal (internal_bit four len) ≡ 1 → bit_at (bit_and a.internal cover) (internal_bit four len) ≡ 1
  masked len l h =
      let k = internal_bit four len in
      let bound : k < 15 = internal_bit_small four len small (omega (arith, l, few)) in
      let c : bit_at cover k ≡ 1 = (covered k (omega (arith, bound))).1 (len, l, refl) in
      omega (arith, bit_at_and a.internal cover k, h, c)

  -- where no masked bit is set, no prefix of the address ends in the node
  none_in : IsHighest 16 (bit_and a.internal cover) None → GreatestBelow (λ len. result_place (internal_bit four len) (Some a)) (lengths_within depth) None
  none_in z len l = place-clear (internal_bit four len) a (λ h.
      let one : bit_at (bit_and a.internal cover) (internal_bit four len) ≡ 1 = masked len l h in
      let none : bit_at (bit_and a.internal cover) (internal_bit four len) ≡ 0 = ap (λ m. bit_at m (internal_bit four len)) z ∙ bit_at-zero (internal_bit four len) in
      omega (arith, one, none))

  -- else the greatest is that of the longest
  some_in : (bit : ℕ) → IsHighest 16 (bit_and a.internal cover) (Some bit)
      → GreatestBelow (λ len. result_place (internal_bit four len) (Some a)) (lengths_within depth) (bit_place a (Some bit))
  some_in bit top =
      let both = both_bits a.internal cover bit top.1 in
      let at = (covered bit top.0).0 both.1 in
      let same : length_of bit ≡ at.0 = length_of-internal bit four at.0 small (omega (arith, at.1, few)) at.2 in
      let here : bit ≡ internal_bit four (length_of bit) = at.2 ∙ ap (internal_bit four) (sym same) in (
        omega (arith, same, at.1),
        ap (λ k. result_place k (Some a)) (sym here) ∙ place-set bit a both.0,
        λ len l h. place-clear (internal_bit four len) a (λ x.
            let one : bit_at (bit_and a.internal cover) (internal_bit four len) ≡ 1 = masked len h x in
            let above : internal_bit four (length_of bit) < internal_bit four len = longer_is_greater four (length_of bit) len small l (omega (arith, h, few)) in
            let none : bit_at (bit_and a.internal cover) (internal_bit four len) ≡ 0 = top.2 (internal_bit four len) (omega (arith, above, here)) in
            omega (arith, one, none)),
      )

  pub longest_in : (bit : Option ℕ) → IsHighest 16 (bit_and a.internal cover) bit → GreatestBelow (λ len. result_place (internal_bit four len) (Some a)) (lengths_within depth) (bit_place a bit)
  longest_in None top = none_in top
  longest_in (Some bit) top = some_in bit top
