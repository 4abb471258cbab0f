-- The first bits of a path, by nibbles.
use Rattle.std.proofs.Common.{ℕ, zero, suc, ◌≡◌, ⊎_elim, ◌+◌, ◌-◌, ◌*◌, ◌/◌, ◌%◌, ◌^◌, ◌<◌, ◌≤◌, arith, sym, ap, subst, ◌∙◌}
use Rattle.std.proofs.{lemmas.Nat.shr-shr, lemmas.Nat.same_from_place, lemmas.Bool.cases_lt}
use Rattle.tree_bitmap.specs.Tree.{nibble, path_top, internal_bit}

-- the first four times (depth + 1) bits are those before and the nibble
pub top_step : (p depth : ℕ) → depth ≤ 8 → path_top p (4 * (depth + 1)) ≡ path_top p (4 * depth) * 16 + nibble p depth
top_step p depth h =
    let e : 36 - 4 * (depth + 1) ≡ 32 - 4 * depth = omega arith in
    let f : 32 - 4 * depth + 4 ≡ 36 - 4 * depth = omega arith in
    let s : p / 2 ^ (32 - 4 * depth) / 2 ^ 4 ≡ p / 2 ^ (36 - 4 * depth) = shr-shr p (32 - 4 * depth) 4 ∙ ap (λ k. p / 2 ^ k) f in
    ap (λ k. p / 2 ^ k) e ∙ omega (arith, s)

-- all but the last bits of a number, by its sixteenth and its last four bits
sixteenths : (x len : ℕ) → len < 4 → x / 2 ^ (4 - len) ≡ x / 16 * 2 ^ len + x % 16 / 2 ^ (4 - len)
sixteenths x (suc (suc (suc (suc n)))) h = absurd (omega arith)
sixteenths x _ h = omega arith

-- the first bits of a path within a node: those above it, and the first of the four bits there
pub path_start_in : (p depth len : ℕ) → depth ≤ 8 → len < 4
    → path_top p (4 * depth + len) ≡ path_top p (4 * depth) * 2 ^ len + nibble p depth / 2 ^ (4 - len)
path_start_in p depth len h l =
    let e : 32 - 4 * depth + (4 - len) ≡ 36 - (4 * depth + len) = omega arith in
    let f : 32 - 4 * depth + 4 ≡ 36 - 4 * depth = omega arith in
    let s : p / 2 ^ (32 - 4 * depth) / 2 ^ 4 ≡ p / 2 ^ (36 - 4 * depth) = shr-shr p (32 - 4 * depth) 4 ∙ ap (λ k. p / 2 ^ k) f in
    sym (shr-shr p (32 - 4 * depth) (4 - len) ∙ ap (λ k. p / 2 ^ k) e)
    ∙ sixteenths (p / 2 ^ (32 - 4 * depth)) len l
    ∙ ap (λ y. y * 2 ^ len + nibble p depth / 2 ^ (4 - len)) s

-- paths with the same first nibbles have the same first bits, and the other way round
pub top_from_nibbles : (p q depth : ℕ) → p < 2 ^ 36 → q < 2 ^ 36 → depth ≤ 9 → ((k : ℕ) → k < depth → nibble p k ≡ nibble q k)
    → path_top p (4 * depth) ≡ path_top q (4 * depth)
top_from_nibbles p q zero a b h same = omega arith
top_from_nibbles p q (suc depth) a b h same =
    let e : suc depth ≡ depth + 1 = omega arith in
    let before = top_from_nibbles p q depth a b (omega arith) (λ k l. same k (omega arith)) in
    ap (λ d. path_top p (4 * d)) e ∙ top_step p depth (omega arith)
    ∙ (let n = same depth (omega arith) in omega (arith, before, n))
    ∙ sym (ap (λ d. path_top q (4 * d)) e ∙ top_step q depth (omega arith))

-- paths with the same first bits have the same bits above, and the same four bits
top_before : (p q depth : ℕ) → depth ≤ 8 → path_top p (4 * (depth + 1)) ≡ path_top q (4 * (depth + 1))
    → (path_top p (4 * depth) ≡ path_top q (4 * depth)) × (nibble p depth ≡ nibble q depth)
top_before p q depth h e =
    let s = top_step p depth h in
    let t = top_step q depth h in
    (omega (arith, s, t, e), omega (arith, s, t, e))

-- paths with the same first bits have the same four bits at each depth above
pub nibbles_from_top : (p q depth : ℕ) → depth ≤ 9 → path_top p (4 * depth) ≡ path_top q (4 * depth) → (k : ℕ) → k < depth → nibble p k ≡ nibble q k
nibbles_from_top p q zero h e k l = absurd (omega arith)
nibbles_from_top p q (suc depth) h e k l =
    let d : suc depth ≡ depth + 1 = omega arith in
    let b = top_before p q depth (omega arith) (subst (λ x. path_top p (4 * x) ≡ path_top q (4 * x)) d e) in
    ⊎_elim (λ below. nibbles_from_top p q depth (omega arith) b.0 k below)
    (λ here. let same : depth ≡ k = omega arith in subst (λ x. nibble p x ≡ nibble q x) same b.1)
    (cases_lt k depth)

-- two internal bits are the same only for the same length and the same last bits
pub internal_bit_same : (f g l m : ℕ) → f < 16 → g < 16 → l < 4 → m < 4 → internal_bit f l ≡ internal_bit g m
    → (l ≡ m) × (f / 2 ^ (4 - l) ≡ g / 2 ^ (4 - m))
internal_bit_same f g zero (suc zero) a b h k e = absurd (omega arith)
internal_bit_same f g zero (suc (suc zero)) a b h k e = absurd (omega arith)
internal_bit_same f g zero (suc (suc (suc zero))) a b h k e = absurd (omega arith)
internal_bit_same f g (suc zero) zero a b h k e = absurd (omega arith)
internal_bit_same f g (suc zero) (suc (suc zero)) a b h k e = absurd (omega arith)
internal_bit_same f g (suc zero) (suc (suc (suc zero))) a b h k e = absurd (omega arith)
internal_bit_same f g (suc (suc zero)) zero a b h k e = absurd (omega arith)
internal_bit_same f g (suc (suc zero)) (suc zero) a b h k e = absurd (omega arith)
internal_bit_same f g (suc (suc zero)) (suc (suc (suc zero))) a b h k e = absurd (omega arith)
internal_bit_same f g (suc (suc (suc zero))) zero a b h k e = absurd (omega arith)
internal_bit_same f g (suc (suc (suc zero))) (suc zero) a b h k e = absurd (omega arith)
internal_bit_same f g (suc (suc (suc zero))) (suc (suc zero)) a b h k e = absurd (omega arith)
internal_bit_same f g (suc (suc (suc (suc n)))) m a b h k e = absurd (omega arith)
internal_bit_same f g l (suc (suc (suc (suc n)))) a b h k e = absurd (omega arith)
internal_bit_same f g _ _ a b h k e = (omega arith, omega arith)

-- the first bits of four are few
last_small : (f len : ℕ) → f < 16 → len < 4 → f / 2 ^ (4 - len) < 2 ^ len
last_small f (suc (suc (suc (suc n)))) h l = absurd (omega arith)
last_small f _ h l = omega arith

-- the same first bits, by nibbles and what is left
pub parts_from_first : (p q depth len : ℕ) → depth ≤ 8 → len < 4 → path_top p (4 * depth + len) ≡ path_top q (4 * depth + len)
    → ((k : ℕ) → k < depth → nibble p k ≡ nibble q k) × (nibble p depth / 2 ^ (4 - len) ≡ nibble q depth / 2 ^ (4 - len))
parts_from_first p q depth len h l e =
    let s = same_from_place (path_top p (4 * depth)) (nibble p depth / 2 ^ (4 - len)) (path_top q (4 * depth)) (nibble q depth / 2 ^ (4 - len)) (2 ^ len)
    (last_small (nibble p depth) len (omega arith) l) (last_small (nibble q depth) len (omega arith) l)
    (sym (path_start_in p depth len h l) ∙ e ∙ path_start_in q depth len h l) in
    (nibbles_from_top p q depth (omega arith) s.0, s.1)

-- paths with the same four bits above a depth, and the same bits there, have the same first bits
pub first_from_parts : (p q depth len : ℕ) → p < 2 ^ 36 → q < 2 ^ 36 → depth ≤ 8 → len < 4
    → ((k : ℕ) → k < depth → nibble p k ≡ nibble q k) → nibble p depth / 2 ^ (4 - len) ≡ nibble q depth / 2 ^ (4 - len)
    → path_top p (4 * depth + len) ≡ path_top q (4 * depth + len)
first_from_parts p q depth len a b h l same last =
    path_start_in p depth len h l
    ∙ ap (λ x. x * 2 ^ len + nibble p depth / 2 ^ (4 - len)) (top_from_nibbles p q depth a b (omega arith) same)
    ∙ ap (λ x. path_top q (4 * depth) * 2 ^ len + x) last
    ∙ sym (path_start_in q depth len h l)

-- a node has 15 internal bits
pub internal_bit_small : (four len : ℕ) → four < 16 → len < 4 → internal_bit four len < 15
internal_bit_small four (suc (suc (suc (suc n)))) h l = absurd (omega arith)
internal_bit_small four _ h l = omega arith
