-- The longest prefix of a path that ends in a block.
use Rattle.std.proofs.Common.{ℕ, zero, suc, ◌≡◌, inl, inr, ⊎_elim, ◌↔◌, ◌^◌, ◌<◌, ◌≤◌, max, bit_and, bit_or, List, [], ◌∷◌, slice_index, Bool, true, ◌==◌, ◌&&◌, Some, None, arith, refl, sym, ap, subst, ◌∙◌}
use Rattle.std.specs.Int.{bit_at}
use Rattle.std.proofs.lemmas.Bool.{cases_eq, and_parts, eqb-true, cond-true, cond-false, eq-eqb, ne_eqb}
use Rattle.std.proofs.lemmas.Nat.Bits.{bit_at-zero, bit_at-lt, bit_at_and, bit_at_or, bit_at-pow_same, bit_at-pow_other}
use Rattle.bitmaps.specs.{Greatest.GreatestBelow, Bits.IsHighest}
use Rattle.bitmaps.proofs.HighestBit.{both_bits}
use Rattle.array_bitmap.specs.{Bits.row_bit, Bits.width, Blocks.row_map, Blocks.row_index, Blocks.row_in}
use Rattle.array_bitmap.proofs.PathBits.{longer_is_greater}

-- ---- bits of covering prefixes

-- the row bits of the first so many lengths
abbrev pub covering : ℕ → ℕ → ℕ
covering five zero = 0
covering five (suc n) = bit_or (covering five n) (2 ^ row_bit five n)

-- a bit of them is that of one of the lengths
pub covering_set : (five n k : ℕ) → bit_at (covering five n) k ≡ 1 → (more : ℕ) × (more < n) × (k ≡ row_bit five more)
covering_set five zero k h = absurd (omega (arith, h, bit_at-zero k))
covering_set five (suc n) k h = elim (cases_eq k (row_bit five n)) [
  | inl same ↦ (n, omega arith, same)
  | inr apart ↦
      let e : bit_at (bit_or (covering five n) (2 ^ row_bit five n)) k ≡ max (bit_at (covering five n) k) (bit_at (2 ^ row_bit five n) k) = bit_at_or (covering five n) (2 ^ row_bit five n) k in
      let z : bit_at (2 ^ row_bit five n) k ≡ 0 = bit_at-pow_other (row_bit five n) k apart in
      let one : bit_at (covering five n) k ≡ 1 = omega (arith, e, z, h) in
      let rest = covering_set five n k one in
      (rest.0, omega (arith, rest.1), rest.2)
]

pub covering_has : (five n more : ℕ) → more < n → bit_at (covering five n) (row_bit five more) ≡ 1
covering_has five zero more h = absurd (omega arith)
covering_has five (suc n) more h = elim (cases_eq more n) [
  | inl same ↦
      let k = row_bit five more in
      let e : bit_at (bit_or (covering five n) (2 ^ row_bit five n)) k ≡ max (bit_at (covering five n) k) (bit_at (2 ^ row_bit five n) k) = bit_at_or (covering five n) (2 ^ row_bit five n) k in
      let one : bit_at (2 ^ row_bit five n) k ≡ 1 = ap (λ m. bit_at (2 ^ row_bit five m) k) (sym same) ∙ bit_at-pow_same k in
      let low : bit_at (covering five n) k < 2 = bit_at-lt (covering five n) k in
      omega (arith, e, one, low)
  | inr apart ↦
      let k = row_bit five more in
      let e : bit_at (bit_or (covering five n) (2 ^ row_bit five n)) k ≡ max (bit_at (covering five n) k) (bit_at (2 ^ row_bit five n) k) = bit_at_or (covering five n) (2 ^ row_bit five n) k in
      let one : bit_at (covering five n) k ≡ 1 = covering_has five n more (omega (arith, h, apart)) in
      let low : bit_at (2 ^ row_bit five n) k < 2 = bit_at-lt (2 ^ row_bit five n) k in
      omega (arith, e, one, low)
]

-- the same, as the code's mask has it
pub covers_level : (five level k : ℕ) → bit_at (covering five (width level)) k ≡ 1 ↔ ((more : ℕ) × (more < width level) × (k ≡ row_bit five more))
covers_level five level k = (covering_set five (width level) k, λ h. subst (λ b. bit_at (covering five (width level)) b ≡ 1) (sym h.2) (covering_has five (width level) h.0 h.1))

-- ---- the longest prefix in a block

-- a row whose bit is set, and one whose bit is not
pub row-set : (ws : List ℕ) (bit : ℕ) → bit_at (row_map ws) bit ≡ 1 → row_in ws bit ≡ Some (slice_index ws (row_index ws bit))
unfolding row_in
row-set ws bit h = cond-true _ _ _ (eq-eqb _ 1 h)

pub row-clear : (ws : List ℕ) (bit : ℕ) → (bit_at (row_map ws) bit ≡ 1 → ⊥) → row_in ws bit ≡ None
unfolding row_in
row-clear ws bit h = cond-false _ _ _ (ne_eqb _ 1 h)

module _ (ws : List ℕ) (five level cover : ℕ) (small : five < 32)
    (covered : (k : ℕ) → bit_at cover k ≡ 1 ↔ ((more : ℕ) × (more < width level) × (k ≡ row_bit five more))) where
  -- at most five lengths end in a block
  few : width level ≤ 5
  few = omega arith

  -- a covering prefix has its row where its bit is one of those masked
  masked : (more : ℕ) → more < width level → bit_at (row_map ws) (row_bit five more) ≡ 1 → bit_at (bit_and (row_map ws) cover) (row_bit five more) ≡ 1
  masked more l h =
      let k = row_bit five more in
      let c : bit_at cover k ≡ 1 = (covered k).1 (more, l, refl) in
      omega (arith, bit_at_and (row_map ws) cover k, h, c)

  -- where no masked bit is set, no prefix of the path ends in the block
  pub none_in : IsHighest 64 (bit_and (row_map ws) cover) None → GreatestBelow (λ more. row_in ws (row_bit five more)) (width level) None
  none_in z more l = row-clear ws (row_bit five more) (λ h.
      let one : bit_at (bit_and (row_map ws) cover) (row_bit five more) ≡ 1 = masked more l h in
      let none : bit_at (bit_and (row_map ws) cover) (row_bit five more) ≡ 0 = ap (λ m. bit_at m (row_bit five more)) z ∙ bit_at-zero (row_bit five more) in
      omega (arith, one, none))

  -- else the greatest is that of the longest
  pub some_in : (bit : ℕ) → IsHighest 64 (bit_and (row_map ws) cover) (Some bit)
      → (more : ℕ) × GreatestBelow (λ more. row_in ws (row_bit five more)) (width level) (Some (more, slice_index ws (row_index ws bit)))
  some_in bit top =
      let both = both_bits (row_map ws) cover bit top.1 in
      let at = (covered bit).0 both.1 in (
        at.0,
        (
          at.1,
          ap (row_in ws) (sym at.2) ∙ row-set ws bit both.0,
          λ more l h. row-clear ws (row_bit five more) (λ x.
              let one : bit_at (bit_and (row_map ws) cover) (row_bit five more) ≡ 1 = masked more h x in
              let above : row_bit five at.0 < row_bit five more = longer_is_greater five five at.0 more small l (omega (arith, h, few)) in
              let none : bit_at (bit_and (row_map ws) cover) (row_bit five more) ≡ 0 = top.2 (row_bit five more) (omega (arith, above, at.2)) in
              omega (arith, one, none)),
        ),
      )

-- the table has them: each entry is computed
abbrev table : List ℕ
table = 1073758277 ∷ 2147500101 ∷ 4295000133 ∷ 8589967429 ∷ 17179934853 ∷ 34359804037 ∷ 68719607941 ∷ 137439084677 ∷ 274878169353 ∷ 549756076297 ∷ 1099512152329 ∷ 2199023780105 ∷ 4398047560201 ∷ 8796094071305 ∷ 17592188142089 ∷ 35184374186505 ∷ 70368748373010 ∷ 140737492550674 ∷ 281474985100306 ∷ 562949961810962 ∷ 1125899923621906 ∷ 2251799830464530 ∷ 4503599660926994 ∷ 9007199288297490 ∷ 18014398576594978 ∷ 36028797086076962 ∷ 72057594172149794 ∷ 144115188210077730 ∷ 288230376420155426 ∷ 576460752571867170 ∷ 1152921505143726114 ∷ 2305843009750573090 ∷ []

abbrev agree_below : ℕ → Bool
agree_below zero = true
agree_below (suc n) = (slice_index table n == covering n 5) && ((bit_and (slice_index table n) 16383 == covering n 3) && agree_below n)

agree_at : (n : ℕ) → agree_below n ≡ true → (k : ℕ) → k < n → (slice_index table k ≡ covering k 5) × (bit_and (slice_index table k) 16383 ≡ covering k 3)
agree_at zero e k h = absurd (omega (arith, h))
agree_at (suc n) e k h =
    let parts = and_parts (slice_index table n == covering n 5) ((bit_and (slice_index table n) 16383 == covering n 3) && agree_below n) e in
    let rest = and_parts (bit_and (slice_index table n) 16383 == covering n 3) (agree_below n) parts.1 in
    ⊎_elim (λ same. (
      ap (slice_index table) same ∙ eqb-true (slice_index table n) (covering n 5) parts.0 ∙ ap (λ x. covering x 5) (sym same),
      ap (λ x. bit_and (slice_index table x) 16383) same ∙ eqb-true (bit_and (slice_index table n) 16383) (covering n 3) rest.0 ∙ ap (λ x. covering x 3) (sym same),
    ))
    (λ apart. agree_at n rest.1 k (omega (arith, h, apart))) (cases_eq k n)

pub table_entry : (five : ℕ) → five < 32 → (slice_index table five ≡ covering five 5) × (bit_and (slice_index table five) 16383 ≡ covering five 3)
table_entry = agree_at 32 refl
