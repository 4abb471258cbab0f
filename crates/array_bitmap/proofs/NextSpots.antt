-- The next place in a block that has a row or a kid.
use Rattle.std.proofs.Common.{ℕ, zero, suc, ◌≡◌, inl, inr, ◌+◌, ◌-◌, ◌*◌, ◌/◌, ◌%◌, ◌^◌, ◌<◌, ◌≤◌, min, arith, refl, sym, ap, subst, ◌∙◌, shr-shr, w64, ◌↔◌}
use Rattle.std.specs.{Int.bit_at, Int.Count.count_trailing_zeros, Int.Count.trailing_of_zero}
use Rattle.std.proofs.{lemmas.Bool.cases_eq, lemmas.Bool.cases_lt, lemmas.Nat.pow_pos, lemmas.Nat.pow-add, lemmas.Nat.mod-pow-add, Math.Pow.mod-mod-pow}
use Rattle.std.proofs.lemmas.Nat.Bits.{bit_at-zero, bit_at_cat_low, bit_at_cat_high, bit_at-trailing_zeros}
use Rattle.std.proofs.Math.Nat.{div-mul-le_self, zero-mod, mul-div_cancel, mul-mod_left, add-mul-mod_self_right, mul-lt-mul_of_pos_right}
use Rattle.array_bitmap.specs.Bits.{depth_of, path_start, row_bit, width}
use Rattle.array_bitmap.specs.{Cursor.spot_number, declared.cursor.Spot.Spot}
use Rattle.array_bitmap.proofs.ShortRows.{start_small}

-- ---- the next bit

-- the bits from one on
abbrev from_on : ℕ → ℕ → ℕ
from_on bits from = bits / 2 ^ from * 2 ^ from

from_on_low : (bits from k : ℕ) → k < from → bit_at (from_on bits from) k ≡ 0
from_on_low bits from k l =
    let e : from_on bits from ≡ from_on bits from + 0 = omega arith in
    ap (λ n. bit_at n k) e ∙ bit_at_cat_low (bits / 2 ^ from) from 0 k l ∙ bit_at-zero k

from_on_high : (bits from k : ℕ) → from ≤ k → bit_at (from_on bits from) k ≡ bit_at bits k
from_on_high bits from k h =
    let e : from_on bits from ≡ from_on bits from + 0 = omega arith in
    let s : from + (k - from) ≡ k = omega arith in
    ap (λ n. bit_at n k) e ∙ bit_at_cat_high (bits / 2 ^ from) from 0 k (pow_pos from) h
    ∙ ap (λ n. n % 2) (shr-shr bits from (k - from) ∙ ap (λ j. bits / 2 ^ j) s)

-- the first of them, and that none of them is below it
module _ (bits from : ℕ) (fits : bits < 2 ^ 64) (within : from < 64) where
  pub next_bit : (from ≤ count_trailing_zeros 64 (bits / 2 ^ from * 2 ^ from)) × ((k : ℕ) → from ≤ k → k < count_trailing_zeros 64 (bits / 2 ^ from * 2 ^ from) → bit_at bits k ≡ 0)
  next_bit = elim (cases_eq (bits / 2 ^ from * 2 ^ from) 0) [
    | inl none ↦ (
      let z : count_trailing_zeros 64 (bits / 2 ^ from * 2 ^ from) ≡ 64 = ap (count_trailing_zeros 64) none ∙ trailing_of_zero 64 in
          omega (arith, z),
      λ k h l. sym (from_on_high bits from k h) ∙ ap (λ n. bit_at n k) none ∙ bit_at-zero k,
    )
    | inr some ↦
        let small : bits / 2 ^ from * 2 ^ from < 2 ^ 64 = omega (arith, div-mul-le_self bits (2 ^ from)) in
        let first = bit_at-trailing_zeros w64 (bits / 2 ^ from * 2 ^ from) (omega (arith, some)) small in (
          elim (cases_lt (count_trailing_zeros 64 (bits / 2 ^ from * 2 ^ from)) from) [
            | inl below ↦ absurd (omega (arith, first.1, from_on_low bits from (count_trailing_zeros 64 (bits / 2 ^ from * 2 ^ from)) below))
            | inr above ↦ above
          ],
          λ k h l. sym (from_on_high bits from k h) ∙ first.2 k l,
        )
  ]

-- ---- the next row of a length

-- where the next row of a length begins
abbrev pub IsNextStart : ℕ → ℕ → ℕ → ℕ → Type 0
IsNextStart more from bit row = (row ≤ 32) × (row % 2 ^ (4 - more) ≡ 0) × (from * 2 ^ (4 - more) ≤ row)
    × ((v : ℕ) → v % 2 ^ (4 - more) ≡ 0 → from * 2 ^ (4 - more) ≤ v → v < row → (2 ^ (more + 1) - 2 + from ≤ row_bit v more) × (row_bit v more < bit))

pub next_start : (more : ℕ) → more < 5 → (from bit : ℕ) → from ≤ 2 ^ (more + 1) → 2 ^ (more + 1) - 2 + from ≤ bit
    → IsNextStart more from bit (min (bit - (2 ^ (more + 1) - 2)) (2 ^ (more + 1)) * 2 ^ (4 - more))
next_start (suc (suc (suc (suc (suc n))))) few from bit within found = absurd (omega arith)
next_start _ few from bit within found = (omega arith, omega arith, omega arith, λ v s l h. (omega arith, omega arith))

-- as the code computes it
pub next_start_is : (more from bit row : ℕ) → more < 5 → from ≤ 2 ^ (more + 1) → 2 ^ (more + 1) - 2 + from ≤ bit → row ≡ min (bit - (2 ^ (more + 1) - 2)) (2 ^ (more + 1)) * 2 ^ (4 - more)
    → IsNextStart more from bit row
next_start_is more from bit row few within found is = subst (IsNextStart more from bit) (sym is) (next_start more few from bit within found)

-- as many values as a length has
pub values_few : (more : ℕ) → more < 5 → 2 ^ (more + 1) ≤ 32
values_few (suc (suc (suc (suc (suc n))))) few = absurd (omega arith)
values_few _ few = omega arith

-- a value of them, as the code shifts it
pub value_shifted : (more value : ℕ) → more < 5 → value < 2 ^ (more + 1) → value * 2 ^ (4 - more) % 4294967296 ≡ value * 2 ^ (4 - more)
value_shifted (suc (suc (suc (suc (suc n))))) value few small = absurd (omega arith)
value_shifted _ value few small = omega arith

-- where there is none
pub values_end : (more : ℕ) → more < 5 → 32 ≡ 2 ^ (more + 1) * 2 ^ (4 - more)
values_end (suc (suc (suc (suc (suc n))))) few = absurd (omega arith)
values_end _ few = refl

-- ---- the next place

-- where a shorter length's values begin, those of a longer one do
pub shorter_start : (five more len : ℕ) → more ≤ len → five % 2 ^ (4 - more) ≡ 0 → five % 2 ^ (4 - len) ≡ 0
shorter_start five more len less start =
    let e : 4 - more ≡ (4 - more) - (4 - len) + (4 - len) = omega arith in
    sym (mod-mod-pow five ((4 - more) - (4 - len)) (4 - len)) ∙ ap (λ k. five % 2 ^ k % 2 ^ (4 - len)) (sym e) ∙ ap (λ n. n % 2 ^ (4 - len)) start ∙ zero_mod (4 - len)
  where
    zero_mod : (k : ℕ) → 0 % 2 ^ k ≡ 0
    zero_mod k = omega (arith, pow_pos k)

-- the first value of a length after a place
module _ (five more : ℕ) (small : five < 32) where
  -- of no greater length
  pub after_short : (len v : ℕ) → len < 5 → len ≤ more → more < 5 → v % 2 ^ (4 - len) ≡ 0
      → ((five / 2 ^ (4 - len) + 1) * 2 ^ (4 - len) ≤ v → spot_number five more < spot_number v len) × (spot_number five more < spot_number v len → (five / 2 ^ (4 - len) + 1) * 2 ^ (4 - len) ≤ v)
  after_short (suc (suc (suc (suc (suc n))))) v few le m s = absurd (omega arith)
  after_short _ v few le m s = (λ h. omega arith, λ h. omega arith)

  -- of a greater length
  pub after_long : (len v : ℕ) → len < 5 → more < len → v % 2 ^ (4 - len) ≡ 0 → five % 2 ^ (4 - len) ≡ 0
      → (five / 2 ^ (4 - len) * 2 ^ (4 - len) ≤ v → spot_number five more < spot_number v len) × (spot_number five more < spot_number v len → five / 2 ^ (4 - len) * 2 ^ (4 - len) ≤ v)
  after_long zero v few l s t = absurd (omega arith)
  after_long (suc (suc (suc (suc (suc n))))) v few l s t = absurd (omega arith)
  after_long _ v few l s t = (λ h. omega arith, λ h. omega arith)

-- the next place, as far as the rows of the first so many lengths say
pub record IsSpotTo (rows level five more len : ℕ) (next : Spot) : Type 0 where
  pub within : next.five ≤ 32
  pub few : next.more ≤ 4
  pub under : next.more ≤ len
  pub after : spot_number five more < spot_number next.five next.more
  pub short : depth_of level + (next.more + 1) ≤ 32
  pub start : next.five % 2 ^ (4 - next.more) ≡ 0
  pub no_row : (v m : ℕ) → m < len → v % 2 ^ (4 - m) ≡ 0 → spot_number five more < spot_number v m → spot_number v m < spot_number next.five next.more → bit_at rows (row_bit v m) ≡ 0

pub one_length_more : (rows level five more len from : ℕ) (one other next : Spot) → level ≤ 5 → len < width level → IsSpotTo rows level five more len one → other.more ≡ len
    → other.five ≤ 32 → other.five % 2 ^ (4 - len) ≡ 0 → from * 2 ^ (4 - len) ≤ other.five
    → ((v : ℕ) → v % 2 ^ (4 - len) ≡ 0 → from * 2 ^ (4 - len) ≤ v → v < other.five → bit_at rows (row_bit v len) ≡ 0)
    → ((v : ℕ) → v % 2 ^ (4 - len) ≡ 0 → (from * 2 ^ (4 - len) ≤ v) ↔ (spot_number five more < spot_number v len))
    → (other.five < one.five → next ≡ other) → (one.five ≤ other.five → next ≡ one) → IsSpotTo rows level five more (len + 1) next
one_length_more rows level five more len from one other next deep short one_is is_len within start from_on none reach first second = elim (cases_lt other.five one.five) [
  | inl less ↦ subst (IsSpotTo rows level five more (len + 1)) (sym (first less)) (record {
    within = within;
    few = omega (arith, is_len, short);
    under = omega (arith, is_len);
    after = subst (λ m. spot_number five more < spot_number other.five m) (sym is_len) ((reach other.five start).0 from_on);
    short = omega (arith, is_len, short, deep);
    start = subst (λ m. other.five % 2 ^ (4 - m) ≡ 0) (sym is_len) start;
    no_row = λ v m few s after before. elim (cases_eq m len) [
      | inl same ↦ here v m same s after (omega (arith, before, is_len, same))
      | inr apart ↦ one_is.no_row v m (omega (arith, few, apart)) s after (let w = one_is.under in omega (arith, before, is_len, less, few, apart))
    ];
  })
  | inr least ↦ subst (IsSpotTo rows level five more (len + 1)) (sym (second least)) (record {
    within = one_is.within;
    few = one_is.few;
    under = (let w = one_is.under in omega (arith, w));
    after = one_is.after;
    short = one_is.short;
    start = one_is.start;
    no_row = λ v m few s after before. elim (cases_eq m len) [
      | inl same ↦ here v m same s after (let w = one_is.under in omega (arith, before, same, w, least))
      | inr apart ↦ one_is.no_row v m (omega (arith, few, apart)) s after before
    ];
  })
]
  where
    here : (v m : ℕ) → m ≡ len → v % 2 ^ (4 - m) ≡ 0 → spot_number five more < spot_number v m → v < other.five → bit_at rows (row_bit v m) ≡ 0
    here v m same s after less =
        let t : v % 2 ^ (4 - len) ≡ 0 = subst (λ k. v % 2 ^ (4 - k) ≡ 0) same s in
        ap (λ k. bit_at rows (row_bit v k)) same ∙ none v t ((reach v t).1 (subst (λ k. spot_number five more < spot_number v k) same after)) less

-- ---- the prefix of a place

-- its path is that of an address
pub spot_path : (addr level five : ℕ) → addr < 2 ^ 32 → five < 32 → level ≤ 5 → (path_start (addr * 4) (depth_of level) * 32 + five) * 2 ^ (25 - 5 * level) < 2 ^ 34
spot_path addr level five fits small deep =
    let few : path_start (addr * 4) (depth_of level) < 2 ^ depth_of level = start_small (addr * 4) (depth_of level) (omega (arith, fits)) (omega (arith, deep)) in
    let more : 2 ^ (depth_of level + 5) ≡ 2 ^ depth_of level * 2 ^ 5 = pow-add 2 (depth_of level) 5 in
    let below : path_start (addr * 4) (depth_of level) * 32 + five < 2 ^ (depth_of level + 5) = omega (arith, few, more, small) in
    let e : depth_of level + 5 + (25 - 5 * level) ≡ 34 = omega (arith, deep) in
    let all : 2 ^ (depth_of level + 5) * 2 ^ (25 - 5 * level) ≡ 2 ^ 34 = sym (pow-add 2 (depth_of level + 5) (25 - 5 * level)) ∙ ap (λ k. 2 ^ k) e in
    let less : (path_start (addr * 4) (depth_of level) * 32 + five) * 2 ^ (25 - 5 * level) < 2 ^ (depth_of level + 5) * 2 ^ (25 - 5 * level) = mul-lt-mul_of_pos_right below (pow_pos (25 - 5 * level)) in
    omega (arith, less, all)

-- it has no bits after its length
pub spot_free : (above level five more : ℕ) → five % 2 ^ (4 - more) ≡ 0 → level ≤ 5 → depth_of level + (more + 1) ≤ 32
    → (above * 32 + five) * 2 ^ (25 - 5 * level) % 2 ^ (34 - (depth_of level + (more + 1))) ≡ 0
spot_free above level five more start deep short =
    let five_bits : 5 - (4 - more) + (4 - more) ≡ 5 = omega arith in
    let all : 2 ^ (5 - (4 - more)) * 2 ^ (4 - more) ≡ 32 = sym (pow-add 2 (5 - (4 - more)) (4 - more)) ∙ ap (λ n. 2 ^ n) five_bits in
    let turned : above * 32 + five ≡ five + above * 2 ^ (5 - (4 - more)) * 2 ^ (4 - more) = (let m : above * (2 ^ (5 - (4 - more)) * 2 ^ (4 - more)) ≡ above * 32 = ap (λ n. above * n) all in omega (arith, m)) in
    let none : (above * 32 + five) % 2 ^ (4 - more) ≡ 0 = ap (λ n. n % 2 ^ (4 - more)) turned ∙ add-mul-mod_self_right five (above * 2 ^ (5 - (4 - more))) (2 ^ (4 - more)) ∙ start in
    let cut = mod-pow-add ((above * 32 + five) * 2 ^ (25 - 5 * level)) (4 - more) (25 - 5 * level) in
    let quotient : (above * 32 + five) * 2 ^ (25 - 5 * level) / 2 ^ (25 - 5 * level) % 2 ^ (4 - more) ≡ 0 = ap (λ n. n % 2 ^ (4 - more)) (mul-div_cancel (above * 32 + five) (pow_pos (25 - 5 * level))) ∙ none in
    let rest : (above * 32 + five) * 2 ^ (25 - 5 * level) % 2 ^ (25 - 5 * level) ≡ 0 = mul-mod_left (above * 32 + five) (2 ^ (25 - 5 * level)) in
    let product : (above * 32 + five) * 2 ^ (25 - 5 * level) / 2 ^ (25 - 5 * level) % 2 ^ (4 - more) * 2 ^ (25 - 5 * level) ≡ 0 * 2 ^ (25 - 5 * level) = ap (λ n. n * 2 ^ (25 - 5 * level)) quotient in
    let whole : (above * 32 + five) * 2 ^ (25 - 5 * level) % 2 ^ (4 - more + (25 - 5 * level)) ≡ 0 = omega (arith, cut, product, rest) in
    let e : 4 - more + (25 - 5 * level) ≡ 4 - more + (25 - 5 * level) - (34 - (depth_of level + (more + 1))) + (34 - (depth_of level + (more + 1))) = omega arith in
    let z : 0 % 2 ^ (34 - (depth_of level + (more + 1))) ≡ 0 = zero-mod (2 ^ (34 - (depth_of level + (more + 1)))) in
    sym (mod-mod-pow ((above * 32 + five) * 2 ^ (25 - 5 * level)) (4 - more + (25 - 5 * level) - (34 - (depth_of level + (more + 1)))) (34 - (depth_of level + (more + 1))))
    ∙ ap (λ j. (above * 32 + five) * 2 ^ (25 - 5 * level) % 2 ^ j % 2 ^ (34 - (depth_of level + (more + 1)))) (sym e) ∙ ap (λ n. n % 2 ^ (34 - (depth_of level + (more + 1)))) whole ∙ z

-- so its address has none
pub address_free : (path len : ℕ) → len ≤ 32 → path % 2 ^ (34 - len) ≡ 0 → (path / 4 % 2 ^ (32 - len) ≡ 0) × (path / 4 * 4 ≡ path)
address_free path len short none =
    let e : 34 - len ≡ 32 - len + 2 = omega (arith, short) in
    let cut : path % 2 ^ (32 - len + 2) ≡ path / 2 ^ 2 % 2 ^ (32 - len) * 2 ^ 2 + path % 2 ^ 2 = mod-pow-add path (32 - len) 2 in
    let zero : path % 2 ^ (32 - len + 2) ≡ 0 = subst (λ k. path % 2 ^ k ≡ 0) e none in
    (omega (arith, cut, zero), omega (arith, cut, zero))
