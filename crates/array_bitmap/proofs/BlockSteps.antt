-- From a place in a block to the next one: no prefix between has a row.
use Rattle.std.proofs.Common.{ℕ, zero, suc, ◌≡◌, inl, inr, ◌+◌, ◌-◌, ◌*◌, ◌/◌, ◌%◌, ◌^◌, ◌<◌, ◌≤◌, false, Option, None, option_map, arith, refl, sym, ap, subst, ◌∙◌}
use Rattle.std.specs.Int.{bit_at}
use Rattle.std.proofs.{lemmas.Bool.cases_lt, lemmas.Bool.cases_order, Math.Nat.mul-lt-mul_of_pos_right, Math.Nat.zero-mod, Math.Pow.mod-mod-pow}
use Rattle.std.proofs.lemmas.Nat.{pow-add, pow_pos, mod-pow-add, div-add-mod', le-div, mul-le}
use Rattle.ipv4_prefix.specs.Prefix.{Prefix, IsPrefix}
use Rattle.array_bitmap.specs.Bits.{depth_of, five_bits, path_start, row_bit}
use Rattle.array_bitmap.specs.{Words.word_entry, Blocks.kid_map, Blocks.kid_in, Blocks.IsHead, declared.blocks.Head.Head, declared.cursor.Spot.Spot, declared.cursor.Found.TheVariants.NoneBefore}
use Rattle.array_bitmap.specs.Cursor.{is_before, IsFirstAt, IsFoundAt, IsNextSpot, spot_number, none_until}
use Rattle.array_bitmap.specs.Tree.{Cells, words_at, block_at, word_at, entry_in, IsSoundCells}
use Rattle.array_bitmap.proofs.{Covering.row-clear, EmptyBlocks.in_level, EmptyBlocks.none_until_end, Lookups.next_block, PathBits.next_level, PrefixRows.path_bits, Stands.word_of_stand, Walks.block-same, Walks.kid-clear, Walks.none_below}
use Rattle.array_bitmap.proofs.PrefixNumbers.{number, number_before, number_not_before, before_from_number}

-- ---- paths as multiples

-- a prefix has no bits after its length, so its path has none after the five bits with which it ends
no_bits_after : (p : Prefix) (w : ℕ) → IsPrefix p → p.len + w ≤ 34 → p.addr * 4 % 2 ^ w ≡ 0
no_bits_after p w valid few =
    let short = valid.short in
    let none = valid.no_host_bits in
    let a : 34 - p.len ≡ 32 - p.len + 2 = omega (arith, short) in
    let b : 34 - p.len ≡ 34 - p.len - w + w = omega (arith, few) in
    let four : p.addr * 4 / 2 ^ 2 ≡ p.addr = omega arith in
    let cut : p.addr * 4 % 2 ^ (32 - p.len + 2) ≡ p.addr * 4 / 2 ^ 2 % 2 ^ (32 - p.len) * 2 ^ 2 + p.addr * 4 % 2 ^ 2 = mod-pow-add (p.addr * 4) (32 - p.len) 2 in
    let rest : p.addr * 4 / 2 ^ 2 % 2 ^ (32 - p.len) ≡ 0 = ap (λ n. n % 2 ^ (32 - p.len)) four ∙ none in
    let zero : p.addr * 4 % 2 ^ (34 - p.len) ≡ 0 = ap (λ k. p.addr * 4 % 2 ^ k) a ∙ omega (arith, cut, rest) in
    let z : 0 % 2 ^ w ≡ 0 = zero-mod (2 ^ w) in
    sym (mod-mod-pow (p.addr * 4) (34 - p.len - w) w) ∙ ap (λ k. p.addr * 4 % 2 ^ k % 2 ^ w) (sym b) ∙ ap (λ n. n % 2 ^ w) zero ∙ z

-- the path down to the end of the five bits at a level
path_fives : (n level : ℕ) → level ≤ 5 → n / 2 ^ (25 - 5 * level) ≡ path_start n (depth_of level) * 32 + five_bits n level
path_fives n level deep =
    let e : 34 - (4 + 5 * suc level) ≡ 25 - 5 * level = omega arith in
    ap (λ k. n / 2 ^ k) (sym e) ∙ next_level n level deep

-- of a prefix that ends there, it is the whole path
whole_path : (p : Prefix) (level : ℕ) → IsPrefix p → level ≤ 5 → p.len ≤ depth_of level + 5
    → (path_start (p.addr * 4) (depth_of level) * 32 + five_bits (p.addr * 4) level) * 2 ^ (25 - 5 * level) ≡ p.addr * 4
whole_path p level valid deep short =
    let all = valid.short in
    let whole = div-add-mod' (p.addr * 4) (2 ^ (25 - 5 * level)) in
    let none = no_bits_after p (25 - 5 * level) valid (omega (arith, short, deep, all)) in
    ap (λ n. n * 2 ^ (25 - 5 * level)) (sym (path_fives (p.addr * 4) level deep)) ∙ omega (arith, whole, none)

-- and its five bits have none after its length
pub no_five_after : (p : Prefix) (level m : ℕ) → IsPrefix p → level ≤ 5 → m < 5 → p.len ≡ depth_of level + (m + 1) → five_bits (p.addr * 4) level % 2 ^ (4 - m) ≡ 0
no_five_after p level m valid deep few len =
    let n : ℕ = p.addr * 4 in
    let none : p.addr * 4 % 2 ^ (4 - m + (25 - 5 * level)) ≡ 0 = no_bits_after p (4 - m + (25 - 5 * level)) valid (omega (arith, len, few, deep)) in
    let cut = mod-pow-add (p.addr * 4) (4 - m) (25 - 5 * level) in
    let product : p.addr * 4 / 2 ^ (25 - 5 * level) % 2 ^ (4 - m) * 2 ^ (25 - 5 * level) ≡ 0 = omega (arith, cut, none) in
    let e : 5 ≡ 5 - (4 - m) + (4 - m) = omega arith in
    let same : p.addr * 4 / 2 ^ (25 - 5 * level) % 2 ^ 5 % 2 ^ (4 - m) ≡ p.addr * 4 / 2 ^ (25 - 5 * level) % 2 ^ (4 - m) =
    ap (λ k. p.addr * 4 / 2 ^ (25 - 5 * level) % 2 ^ k % 2 ^ (4 - m)) e ∙ mod-mod-pow (p.addr * 4 / 2 ^ (25 - 5 * level)) (5 - (4 - m)) (4 - m) in
    same ∙ no_factor (p.addr * 4 / 2 ^ (25 - 5 * level) % 2 ^ (4 - m)) (2 ^ (25 - 5 * level)) (pow_pos (25 - 5 * level)) product
  where
    no_factor : (x w : ℕ) → 0 < w → x * w ≡ 0 → x ≡ 0
    no_factor zero w some none = refl
    no_factor (suc x) w some none = absurd (omega (arith, none, some))

-- the order of multiples is that of their factors
scaled_before : (a b x y w : ℕ) → 0 < w → x * w ≡ a * 4 → y * w ≡ b * 4 → a < b → x < y
scaled_before a b x y w some is_a is_b less = elim (cases_lt x y) [
  | inl l ↦ l
  | inr g ↦ absurd (let m : y * w ≤ x * w = mul-le y w x w g (omega arith) in omega (arith, m, is_a, is_b, less))
]

scaled_after : (a b x y w : ℕ) → 0 < w → x * w ≡ a * 4 → y * w ≡ b * 4 → x < y → a < b
scaled_after a b x y w some is_a is_b less = let m : x * w < y * w = mul-lt-mul_of_pos_right less some in omega (arith, m, is_a, is_b)

scaled_same : (a b x y w : ℕ) → 0 < w → x * w ≡ a * 4 → y * w ≡ b * 4 → a ≡ b → x ≡ y
scaled_same a b x y w some is_a is_b same = elim (cases_order x y) [
  | inl e ↦ e
  | inr (inl l) ↦ absurd (omega (arith, same, scaled_after a b x y w some is_a is_b l))
  | inr (inr g) ↦ absurd (omega (arith, same, scaled_after b a y x w some is_b is_a g))
]

-- ---- the order of prefixes in a block

module _ (p r : Prefix) (level start five_p five_r more_p more_r : ℕ)
    (is_p : (start * 32 + five_p) * 2 ^ (25 - 5 * level) ≡ p.addr * 4) (is_r : (start * 32 + five_r) * 2 ^ (25 - 5 * level) ≡ r.addr * 4)
    (len_p : p.len ≡ depth_of level + (more_p + 1)) (len_r : r.len ≡ depth_of level + (more_r + 1)) (few_p : more_p < 6) (few_r : more_r < 6) where
  some : 0 < 2 ^ (25 - 5 * level)
  some = pow_pos (25 - 5 * level)

  -- a prefix that comes before another has a smaller place
  pub place_before : number p < number r → p.len ≤ 32 → r.len ≤ 32 → spot_number five_p more_p < spot_number five_r more_r
  place_before less short_p short_r = elim (cases_order p.addr r.addr) [
    | inl same ↦ omega (arith, len_p, len_r, less, same, scaled_same p.addr r.addr (start * 32 + five_p) (start * 32 + five_r) (2 ^ (25 - 5 * level)) some is_p is_r same)
    | inr (inl l) ↦ omega (arith, few_p, few_r, scaled_before p.addr r.addr (start * 32 + five_p) (start * 32 + five_r) (2 ^ (25 - 5 * level)) some is_p is_r l)
    | inr (inr g) ↦ absurd (omega (arith, g, less, short_p, short_r))
  ]

  -- and the other way round
  pub before_place : spot_number five_p more_p < spot_number five_r more_r → p.len ≤ 32 → r.len ≤ 32 → number p < number r
  before_place less short_p short_r = elim (cases_order five_p five_r) [
    | inl same ↦
        let e : (start * 32 + five_p) * 2 ^ (25 - 5 * level) ≡ (start * 32 + five_r) * 2 ^ (25 - 5 * level) = ap (λ f. (start * 32 + f) * 2 ^ (25 - 5 * level)) same in
        omega (arith, e, is_p, is_r, len_p, len_r, less, same)
    | inr (inl l) ↦ omega (arith, short_p, scaled_after p.addr r.addr (start * 32 + five_p) (start * 32 + five_r) (2 ^ (25 - 5 * level)) some is_p is_r (omega (arith, l)))
    | inr (inr g) ↦ absurd (omega (arith, g, less, few_p, few_r))
  ]

-- ---- no row between

module _ (t : Cells) (sound : IsSoundCells t) (c : Prefix) (level block five more : ℕ) (head : Head) (spot : Spot)
    (valid : IsPrefix c) (low : t.first ≤ level) (deep : level ≤ 5) (len : c.len ≡ depth_of level + (more + 1)) (few : more < 5)
    (five_is : five ≡ five_bits (c.addr * 4) level) (at : block_at t (c.addr * 4) (level - t.first) ≡ block)
    (read : IsHead (words_at t block) head) (own : bit_at head.rows (row_bit five more) ≡ 1 → ⊥)
    (next : IsNextSpot head level five more spot) where
  abbrev start : ℕ
  start = path_start (c.addr * 4) (depth_of level)

  -- the path of the prefix
  own_path : (start * 32 + five) * 2 ^ (25 - 5 * level) ≡ c.addr * 4
  own_path = ap (λ f. (start * 32 + f) * 2 ^ (25 - 5 * level)) five_is ∙ whole_path c level valid deep (omega (arith, len, few))

  module _ (r : Prefix) (valid_r : IsPrefix r) (from : is_before r c ≡ false)
      (bits : path_start (r.addr * 4) (depth_of level) ≡ start) (longer : depth_of level < r.len) where
    abbrev five_r : ℕ
    five_r = five_bits (r.addr * 4) level

    order : number c ≤ number r
    order = number_not_before r c valid_r.short valid.short from

    same_block : block_at t (r.addr * 4) (level - t.first) ≡ block
    same_block =
        let on : t.first + (level - t.first) ≡ level = omega (arith, low) in
        block-same t (r.addr * 4) (c.addr * 4) (level - t.first) (omega (arith, on, deep)) (subst (λ l. path_start (r.addr * 4) (depth_of l) ≡ path_start (c.addr * 4) (depth_of l)) (sym on) bits) ∙ at

    -- a prefix that ends in the block, and before the next place
    none_here : r.len ≤ depth_of level + 5 → spot_number five_r (r.len - depth_of level - 1) < spot_number spot.five spot.more → entry_in t r ≡ None
    none_here short before =
        let short_c = valid.short in
        let short_r = valid_r.short in
        let m : ℕ = r.len - depth_of level - 1 in
        let len_r : r.len ≡ depth_of level + (r.len - depth_of level - 1 + 1) = omega (arith, longer) in
        let few_r : r.len - depth_of level - 1 < 5 = omega (arith, short) in
        let path_r : (start * 32 + five_r) * 2 ^ (25 - 5 * level) ≡ r.addr * 4 = ap (λ s. (s * 32 + five_r) * 2 ^ (25 - 5 * level)) (sym bits) ∙ whole_path r level valid_r deep short in
        let clear : bit_at head.rows (row_bit five_r (r.len - depth_of level - 1)) ≡ 1 → ⊥ = elim (cases_lt (number c) (number r)) [
          | inl above ↦ λ h.
              let after = place_before c r level start five five_r more (r.len - depth_of level - 1) own_path path_r len len_r (omega (arith, few)) (omega (arith, few_r)) above short_c short_r in
              omega (arith, h, next.no_row five_r (r.len - depth_of level - 1) (omega (arith, short_r, longer, deep, short)) (no_five_after r level (r.len - depth_of level - 1) valid_r deep few_r len_r) after before)
          | inr least ↦ λ h.
              let same : c.addr ≡ r.addr = omega (arith, order, least, short_c, short_r) in
              let same_len : r.len - depth_of level - 1 ≡ more = omega (arith, order, least, short_c, short_r, len) in
              let same_five : five_r ≡ five = ap (λ a. five_bits (a * 4) level) (sym same) ∙ sym five_is in
              own (subst (λ f. bit_at head.rows (row_bit f more) ≡ 1) same_five (subst (λ k. bit_at head.rows (row_bit five_r k) ≡ 1) same_len h))
        ] in
        ap (option_map word_entry)
        (ap (word_at t (r.addr * 4)) len_r ∙ word_of_stand t (r.addr * 4) level (r.len - depth_of level - 1) block low few_r same_block
        ∙ row-clear (words_at t block) (row_bit five_r (r.len - depth_of level - 1)) (λ h. clear (ap (λ n. bit_at n (row_bit five_r (r.len - depth_of level - 1))) read.rows ∙ h)))

    -- a longer one, below one of the fives before the next place
    none_below_here : depth_of level + 5 < r.len → five_r < spot.five → entry_in t r ≡ None
    none_below_here long before =
        let short_r = valid_r.short in
        let n = r.addr * 4 in
        let least : start * 32 + five ≤ r.addr * 4 / 2 ^ (25 - 5 * level) =
        le-div (start * 32 + five) (r.addr * 4) (2 ^ (25 - 5 * level)) (pow_pos (25 - 5 * level)) (let o = order in let short_c = valid.short in omega (arith, o, own_path, short_c, short_r)) in
        let at_five : five ≤ five_r = omega (arith, least, path_fives (r.addr * 4) level deep, bits) in
        let shallow : level < 5 = omega (arith, long, short_r) in
        let clear : bit_at (kid_map (words_at t block)) five_r ≡ 0 = ap (λ k. bit_at k five_r) (sym read.kids) ∙ next.no_kid shallow five_r at_five before in
        let kid : 0 ≡ kid_in (words_at t block) five_r = sym (kid-clear (words_at t block) five_r (λ h. omega (arith, h, clear))) in
        let ended : 0 ≡ block_at t (r.addr * 4) (level + 1 - t.first) = next_block t (r.addr * 4) level five_r block 0 low (sym same_block) refl kid in
        let on : t.first + (level + 1 - t.first) ≡ level + 1 = omega (arith, low) in
        ap (option_map word_entry) (none_below t sound.nowhere (r.addr * 4) (level + 1 - t.first) r.len (sym ended) (omega (arith, on, long)))

  -- where there is no next place, none is before the end of the block
  pub none_until_block_end : (addr : ℕ) (after : Option Prefix) → spot.five ≡ 32 → addr ≡ c.addr → IsFirstAt ((addr / 2 ^ (32 - depth_of level) + 1) * 2 ^ (32 - depth_of level)) after
      → IsFoundAt (entry_in t) c (none_until after)
  none_until_block_end addr after ends same first =
      none_until_end (entry_in t) c addr (depth_of level) after valid same
      (λ r valid_r from below.
      let (bits, longer) = in_level c r level valid valid_r (omega (arith, len)) from below in
      let small : five_bits (r.addr * 4) level < 32 = omega arith in
      elim (cases_lt (depth_of level + 5) r.len) [
        | inl long ↦ none_below_here r valid_r from bits longer long (omega (arith, small, ends))
        | inr short ↦ none_here r valid_r from bits longer short (omega (arith, small, ends, short))
      ])
      first

  -- its prefix is before the end of the block
  ends_before : (a : ℕ) → a * 4 ≤ (start * 32 + spot.five) * 2 ^ (25 - 5 * level) → spot.five < 32 → a < (c.addr / 2 ^ (32 - depth_of level) + 1) * 2 ^ (32 - depth_of level)
  ends_before a most small =
      let short_c = valid.short in
      let e : start ≡ c.addr / 2 ^ (32 - depth_of level) = path_bits c.addr (depth_of level) (omega (arith, len, short_c)) in
      let f : 5 + (25 - 5 * level) ≡ 2 + (32 - depth_of level) = omega arith in
      let scale : 32 * 2 ^ (25 - 5 * level) ≡ 4 * 2 ^ (32 - depth_of level) = sym (pow-add 2 5 (25 - 5 * level)) ∙ ap (λ k. 2 ^ k) f ∙ pow-add 2 2 (32 - depth_of level) in
      let less : (start * 32 + spot.five) * 2 ^ (25 - 5 * level) < (start * 32 + 32) * 2 ^ (25 - 5 * level) = mul-lt-mul_of_pos_right (omega (arith, small)) (pow_pos (25 - 5 * level)) in
      let all : (start + 1) * (32 * 2 ^ (25 - 5 * level)) ≡ (start + 1) * (4 * 2 ^ (32 - depth_of level)) = ap (λ n. (start + 1) * n) scale in
      let end : (start + 1) * 2 ^ (32 - depth_of level) ≡ (c.addr / 2 ^ (32 - depth_of level) + 1) * 2 ^ (32 - depth_of level) = ap (λ n. (n + 1) * 2 ^ (32 - depth_of level)) e in
      omega (arith, most, less, all, end)

  -- where there is one, none is before its prefix
  pub none_until_spot : (q : Prefix) → spot.five < 32 → IsPrefix q → q.addr * 4 ≡ (start * 32 + spot.five) * 2 ^ (25 - 5 * level) → q.len ≡ depth_of level + (spot.more + 1)
      → IsFoundAt (entry_in t) c (NoneBefore q)
  none_until_spot q small valid_q path_q len_q =
      let short_c = valid.short in
      let short_q = valid_q.short in
      let few_q = next.few in (
        valid_q,
        before_from_number c q short_c short_q
            (before_place c q level start five spot.five more spot.more own_path (sym path_q) len len_q (omega (arith, few)) (omega (arith, few_q)) next.after short_c short_q),
        λ r valid_r from before.
            let short_r = valid_r.short in
            let order_q = number_before r q short_r short_q before in
            let order_c = number_not_before r c short_r short_c from in
            let (bits, longer) = in_level c r level valid valid_r (omega (arith, len)) from (ends_before r.addr (omega (arith, order_q, path_q, short_q, short_r)) small) in
            elim (cases_lt (depth_of level + 5) r.len) [
              | inl long ↦ none_below_here r valid_r from bits longer long (elim (cases_lt (five_bits (r.addr * 4) level) spot.five) [
                | inl l ↦ l
                | inr g ↦
                    let e : start * 32 + spot.five ≤ r.addr * 4 / 2 ^ (25 - 5 * level) = omega (arith, path_fives (r.addr * 4) level deep, bits, g) in
                    let m : (start * 32 + spot.five) * 2 ^ (25 - 5 * level) ≤ r.addr * 4 / 2 ^ (25 - 5 * level) * 2 ^ (25 - 5 * level) = mul-le (start * 32 + spot.five) (2 ^ (25 - 5 * level)) _ (2 ^ (25 - 5 * level)) e (omega arith) in
                    let whole = div-add-mod' (r.addr * 4) (2 ^ (25 - 5 * level)) in
                    absurd (omega (arith, m, whole, path_q, order_q, len_q, few_q, long))
              ])
              | inr short ↦
                  let path_r : (start * 32 + five_bits (r.addr * 4) level) * 2 ^ (25 - 5 * level) ≡ r.addr * 4 =
                  ap (λ s. (s * 32 + five_bits (r.addr * 4) level) * 2 ^ (25 - 5 * level)) (sym bits) ∙ whole_path r level valid_r deep short in
                  none_here r valid_r from bits longer short
                  (place_before r q level start (five_bits (r.addr * 4) level) spot.five (r.len - depth_of level - 1) spot.more path_r (sym path_q) (omega (arith, longer)) len_q (omega (arith, short)) (omega (arith, few_q)) order_q short_r short_q)
            ],
      )
