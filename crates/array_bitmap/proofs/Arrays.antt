-- The arrays of an image, as the code writes them.
use Rattle.std.proofs.Common.{ℕ, ◌≡◌, inl, inr, ◌+◌, ◌-◌, ◌*◌, ◌/◌, ◌%◌, ◌^◌, ◌<◌, ◌≤◌, List, arith, sym, ap, ◌∙◌}
use Rattle.std.proofs.{lemmas.Bool.cases_lt, lemmas.Bool.cases_eq, Math.Nat.pow-le-pow_right}
use Rattle.std.proofs.lemmas.Nat.{one_shl, pow-add, le-div, div_below, div-add-mod', mod_below, mul-le}
use mathlib.Core.Path.{fun_ext}
use Rattle.array_bitmap.specs.{Bits.depth_of, Bits.path_start, Tree.Cells, Image.top_at, declared.tree.Top.Top}
use Rattle.array_bitmap.proofs.ShortRows.{start_small}

-- a number below 2^64 is not cut off
pub whole : (n : ℕ) → n < 2 ^ 64 → n % 18446744073709551616 ≡ n
whole n h = omega arith

-- the first bits, shifted to the array's
module _ (path len first : ℕ) (fits : path < 2 ^ 34) (short : len ≤ depth_of first) (four : first ≤ 3) where
  -- they end within the array
  pub end_within : (path_start path len + 1) * 2 ^ (depth_of first - len) ≤ 2 ^ depth_of first
  end_within =
      let small : path_start path len < 2 ^ len = start_small path len fits (omega (arith, short, four)) in
      let sum : len + (depth_of first - len) ≡ depth_of first = omega (arith, short) in
      let all : 2 ^ depth_of first ≡ 2 ^ len * 2 ^ (depth_of first - len) = ap (λ n. 2 ^ n) (sym sum) ∙ pow-add 2 len (depth_of first - len) in
      let most : (path_start path len + 1) * 2 ^ (depth_of first - len) ≤ 2 ^ len * 2 ^ (depth_of first - len) =
      mul-le (path_start path len + 1) (2 ^ (depth_of first - len)) (2 ^ len) (2 ^ (depth_of first - len)) (omega (arith, small)) (omega arith) in
      omega (arith, most, all)

  array_small : 2 ^ depth_of first ≤ 2 ^ 19
  array_small = pow-le-pow_right {n = 2} (omega arith) {j = 19} (omega (arith, four))

  pub end_whole : (path_start path len + 1) * 2 ^ (depth_of first - len) % 18446744073709551616 ≡ (path_start path len + 1) * 2 ^ (depth_of first - len)
  end_whole = whole ((path_start path len + 1) * 2 ^ (depth_of first - len)) (omega (arith, end_within, array_small))

  pub begin_whole : path_start path len * 2 ^ (depth_of first - len) % 18446744073709551616 ≡ path_start path len * 2 ^ (depth_of first - len)
  begin_whole =
      whole (path_start path len * 2 ^ (depth_of first - len))
      (let more : path_start path len * 2 ^ (depth_of first - len) ≤ (path_start path len + 1) * 2 ^ (depth_of first - len) =
      mul-le (path_start path len) (2 ^ (depth_of first - len)) (path_start path len + 1) (2 ^ (depth_of first - len)) (omega arith) (omega arith) in
      omega (arith, more, end_within, array_small))

  -- a short prefix has its number
  pub number_whole : 1 * 2 ^ len % 18446744073709551616 ≡ 2 ^ len
  number_whole = one_shl len 64 (omega (arith, short, four))

  pub number_within : 2 ^ len + path_start path len < 2 ^ (depth_of first + 1)
  number_within =
      let small : path_start path len < 2 ^ len = start_small path len fits (omega (arith, short, four)) in
      let two : 2 ^ (len + 1) ≡ 2 ^ len * 2 ^ 1 = pow-add 2 len 1 in
      let more : 2 ^ (len + 1) ≤ 2 ^ (depth_of first + 1) = pow-le-pow_right {n = 2} (omega arith) (omega (arith, short)) in
      omega (arith, small, two, more)

-- an index of the array begins with the bits where it is among those
pub among : (x s w : ℕ) → 0 < w → s * w ≤ x → x < (s + 1) * w → x / w ≡ s
among x s w some low high = let a : s ≤ x / w = le-div s x w some low in let b : x / w < s + 1 = div_below x w (s + 1) some high in omega (arith, a, b)

pub among-low : (x s w : ℕ) → 0 < w → x / w ≡ s → s * w ≤ x
among-low x s w some e = let a : x / w * w ≡ s * w = ap (λ n. n * w) e in omega (arith, a, div-add-mod' x w)

pub among-high : (x s w : ℕ) → 0 < w → x / w ≡ s → x < (s + 1) * w
among-high x s w some e =
    let a : x / w * w ≡ s * w = ap (λ n. n * w) e in
    omega (arith, a, div-add-mod' x w, mod_below x w some)

module _ (old new : List Top) (s w from to : ℕ) (change : ℕ → ℕ) (some : 0 < w) (f : from ≡ s * w) (t : to ≡ (s + 1) * w)
    (inside : (x : ℕ) → from ≤ x → x < to → top_at new x ≡ record (top_at old x) { best = change (top_at old x).best })
    (below : (x : ℕ) → x < from → top_at new x ≡ top_at old x)
    (above : (x : ℕ) → from ≤ x → to ≤ x → top_at new x ≡ top_at old x) where
  -- the words of the indexes that begin with the bits, and of others
  pub best_covered : (x : ℕ) → x / w ≡ s → (top_at new x).best ≡ change (top_at old x).best
  best_covered x e = ap (λ (y : Top). y.best) (inside x (omega (arith, f, among-low x s w some e)) (omega (arith, t, among-high x s w some e)))

  outside : (x : ℕ) → (x / w ≡ s → ⊥) → top_at new x ≡ top_at old x
  outside x n = elim (cases_lt x from) [
    | inl l ↦ below x l
    | inr g ↦ elim (cases_lt x to) [
      | inl h ↦ absurd (n (among x s w some (omega (arith, f, g)) (omega (arith, t, h))))
      | inr k ↦ above x g k
    ]
  ]

  pub best_uncovered : (x : ℕ) → (x / w ≡ s → ⊥) → (top_at new x).best ≡ (top_at old x).best
  best_uncovered x n = ap (λ (y : Top). y.best) (outside x n)

  -- the places of blocks stay
  pub blocks_stay : (x : ℕ) → (top_at new x).block ≡ (top_at old x).block
  blocks_stay x = elim (cases_eq (x / w) s) [
    | inl e ↦ ap (λ (y : Top). y.block) (inside x (omega (arith, f, among-low x s w some e)) (omega (arith, t, among-high x s w some e)))
    | inr n ↦ ap (λ (y : Top). y.block) (outside x n)
  ]

-- the words of a tree whose arrays alone were written
pub arrays_kept : (c : Cells) (shorts2 bests2 tops2 : ℕ → ℕ) → ((x : ℕ) → tops2 x ≡ c.tops x) → record c { shorts = shorts2; bests = bests2; tops = tops2 } ≡ record c { shorts = shorts2; bests = bests2 }
arrays_kept c shorts2 bests2 tops2 e = ap (λ t. record c { shorts = shorts2; bests = bests2; tops = t }) (fun_ext e)
