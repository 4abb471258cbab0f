-- The first bits of a path, by fives.
use Rattle.std.proofs.Common.{ℕ, suc, ◌≡◌, ◌+◌, ◌-◌, ◌*◌, ◌/◌, ◌%◌, ◌^◌, ◌<◌, ◌≤◌, arith, sym, ap, ◌∙◌, inl, inr}
use Rattle.std.proofs.lemmas.Nat.{shr-shr, same_from_place, pow-add, pow_pos}
use Rattle.std.proofs.{lemmas.Bool.cases_order, Math.Nat.pow-le-pow_right}
use Rattle.array_bitmap.specs.Bits.{depth_of, five_bits, path_start, row_bit, level_of, more_of}

-- the bits before the next level are those before this one and the five
pub next_level : (p level : ℕ) → level ≤ 5 → path_start p (depth_of (suc level)) ≡ path_start p (depth_of level) * 32 + five_bits p level
next_level p level h =
    let e : 34 - (4 + 5 * suc level) ≡ 25 - 5 * level = omega arith in
    let f : 25 - 5 * level + 5 ≡ 34 - (4 + 5 * level) = omega arith in
    let s : p / 2 ^ (25 - 5 * level) / 2 ^ 5 ≡ p / 2 ^ (34 - (4 + 5 * level)) = shr-shr p (25 - 5 * level) 5 ∙ ap (λ k. p / 2 ^ k) f in
    ap (λ k. p / 2 ^ k) e ∙ omega (arith, s)

-- all but the last bits of a number, by its 32nd part and its last five bits
parts : (x more : ℕ) → more < 5 → x / 2 ^ (4 - more) ≡ x / 32 * 2 ^ (more + 1) + x % 32 / 2 ^ (4 - more)
parts x (suc (suc (suc (suc (suc n))))) h = absurd (omega arith)
parts x _ h = omega arith

-- the first bits of a path that end in a block: those above it, and the first of the five bits there
pub path_start_in : (p level more : ℕ) → level ≤ 5 → more < 5
    → path_start p (depth_of level + (more + 1)) ≡ path_start p (depth_of level) * 2 ^ (more + 1) + five_bits p level / 2 ^ (4 - more)
path_start_in p level more h l =
    let e : 25 - 5 * level + (4 - more) ≡ 34 - (4 + 5 * level + (more + 1)) = omega arith in
    let f : 25 - 5 * level + 5 ≡ 34 - (4 + 5 * level) = omega arith in
    let s : p / 2 ^ (25 - 5 * level) / 2 ^ 5 ≡ p / 2 ^ (34 - (4 + 5 * level)) = shr-shr p (25 - 5 * level) 5 ∙ ap (λ k. p / 2 ^ k) f in
    sym (shr-shr p (25 - 5 * level) (4 - more) ∙ ap (λ k. p / 2 ^ k) e)
    ∙ parts (p / 2 ^ (25 - 5 * level)) more l
    ∙ ap (λ y. y * 2 ^ (more + 1) + five_bits p level / 2 ^ (4 - more)) s

-- paths with the same bits before the next level have the same bits before this one, and the same five
pub before_level : (p q level : ℕ) → level ≤ 5 → path_start p (depth_of (suc level)) ≡ path_start q (depth_of (suc level))
    → (path_start p (depth_of level) ≡ path_start q (depth_of level)) × (five_bits p level ≡ five_bits q level)
before_level p q level h e =
    let s = next_level p level h in
    let t = next_level q level h in
    (omega (arith, s, t, e), omega (arith, s, t, e))

-- and the other way round
pub after_level : (p q level : ℕ) → level ≤ 5 → path_start p (depth_of level) ≡ path_start q (depth_of level) → five_bits p level ≡ five_bits q level
    → path_start p (depth_of (suc level)) ≡ path_start q (depth_of (suc level))
after_level p q level h e f = omega (arith, next_level p level h, next_level q level h, e, f)

-- the first of five bits are few
pub first_small : (five more : ℕ) → five < 32 → more < 5 → five / 2 ^ (4 - more) < 2 ^ (more + 1)
first_small five (suc (suc (suc (suc (suc n))))) h l = absurd (omega arith)
first_small five _ h l = omega arith

-- a block has 62 row bits
pub row_bit_small : (five more : ℕ) → five < 32 → more < 5 → row_bit five more < 62
row_bit_small five (suc (suc (suc (suc (suc n))))) h l = absurd (omega arith)
row_bit_small five _ h l = omega arith

two_or_more : (l : ℕ) → 2 ≤ 2 ^ (l + 1)
two_or_more l = omega (arith, pow-add 2 l 1, pow_pos l)

-- a longer prefix has a greater bit
pub longer_is_greater : (f g l m : ℕ) → f < 32 → l < m → m < 5 → row_bit f l < row_bit g m
longer_is_greater f g l m a h b =
    let few : f / 2 ^ (4 - l) < 2 ^ (l + 1) = first_small f l a (omega arith) in
    let two : 2 ^ (1 + (l + 1)) ≡ 2 ^ 1 * 2 ^ (l + 1) = pow-add 2 1 (l + 1) in
    let more : 2 ^ (1 + (l + 1)) ≤ 2 ^ (m + 1) = pow-le-pow_right {n = 2} (omega arith) (omega arith) in
    omega (arith, few, two, more, two_or_more l)

-- two row bits are the same only for the same length and the same first bits
pub row_bit_same : (f g l m : ℕ) → f < 32 → g < 32 → l < 5 → m < 5 → row_bit f l ≡ row_bit g m → (l ≡ m) × (f / 2 ^ (4 - l) ≡ g / 2 ^ (4 - m))
row_bit_same f g l m a b h k e = elim (cases_order l m) [
  | inl same ↦ (
    same,
    let p : 2 ^ (l + 1) ≡ 2 ^ (m + 1) = ap (λ x. 2 ^ (x + 1)) same in
        omega (arith, e, p, two_or_more l),
  )
  | inr (inl less) ↦ absurd (omega (arith, e, longer_is_greater f g l m a less k))
  | inr (inr more) ↦ absurd (omega (arith, e, longer_is_greater g f m l b more h))
]

-- the same first bits, by the bits above a block and what is left
pub parts_from_first : (p q level more : ℕ) → level ≤ 5 → more < 5 → path_start p (depth_of level + (more + 1)) ≡ path_start q (depth_of level + (more + 1))
    → (path_start p (depth_of level) ≡ path_start q (depth_of level)) × (five_bits p level / 2 ^ (4 - more) ≡ five_bits q level / 2 ^ (4 - more))
parts_from_first p q level more h l e =
    same_from_place (path_start p (depth_of level)) (five_bits p level / 2 ^ (4 - more)) (path_start q (depth_of level)) (five_bits q level / 2 ^ (4 - more)) (2 ^ (more + 1))
    (first_small (five_bits p level) more (omega arith) l) (first_small (five_bits q level) more (omega arith) l)
    (sym (path_start_in p level more h l) ∙ e ∙ path_start_in q level more h l)

-- and the other way round
pub first_from_parts : (p q level more : ℕ) → level ≤ 5 → more < 5 → path_start p (depth_of level) ≡ path_start q (depth_of level)
    → five_bits p level / 2 ^ (4 - more) ≡ five_bits q level / 2 ^ (4 - more) → path_start p (depth_of level + (more + 1)) ≡ path_start q (depth_of level + (more + 1))
first_from_parts p q level more h l same last =
    path_start_in p level more h l
    ∙ ap (λ x. x * 2 ^ (more + 1) + five_bits p level / 2 ^ (4 - more)) same
    ∙ ap (λ x. path_start q (depth_of level) * 2 ^ (more + 1) + x) last
    ∙ sym (path_start_in q level more h l)

-- and the other way round
pub level_from_parts : (level more : ℕ) → more < 5 → level_of (depth_of level + (more + 1)) ≡ level
level_from_parts level more h = omega arith

pub more_from_parts : (level more : ℕ) → more < 5 → more_of (depth_of level + (more + 1)) ≡ more
more_from_parts level more h = omega arith

-- the same bits down to a level are the same bits down to a level above it
pub start_above : (p q len more : ℕ) → len + more ≤ 34 → path_start p (len + more) ≡ path_start q (len + more) → path_start p len ≡ path_start q len
start_above p q len more h e =
    let d : 34 - (len + more) + more ≡ 34 - len = omega arith in
    sym (shr-shr p (34 - (len + more)) more ∙ ap (λ k. p / 2 ^ k) d) ∙ ap (λ n. n / 2 ^ more) e ∙ shr-shr q (34 - (len + more)) more ∙ ap (λ k. q / 2 ^ k) d
