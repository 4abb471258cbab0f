-- What an image has at a prefix, and which prefixes after it have no row.
use Rattle.std.proofs.Common.{ℕ, ◌≡◌, inl, inr, ◌+◌, ◌-◌, ◌*◌, ◌/◌, ◌%◌, ◌^◌, ◌<◌, ◌≤◌, false, Option, Some, None, option_map, arith, sym, ap, subst, ◌∙◌}
use Rattle.std.proofs.{lemmas.Bool.cases_lt, lemmas.Bool.cases_eq, lemmas.Bool.true≢false, lemmas.Nat.div-mul-add, lemmas.Nat.pow_pos, Math.Nat.div-add-mod, Math.Nat.div-mul-le_self, Math.Nat.lt-div-mul-add}
use Rattle.ipv4_prefix.specs.Prefix.{Prefix, IsPrefix}
use Rattle.network_model.specs.declared.route.Entry.{Entry}
use Rattle.array_bitmap.specs.{Bits.depth_of, Bits.path_start, Words.word_entry}
use Rattle.array_bitmap.specs.Cursor.{is_before, IsNextPrefix, IsFirstAt, IsFoundAt, none_until}
use Rattle.array_bitmap.specs.Tree.{Cells, block_at, entry_in, IsSoundCells}
use Rattle.array_bitmap.proofs.{Walks.block-same, Walks.none_below, PrefixRows.path_bits}
use Rattle.array_bitmap.proofs.PrefixNumbers.{number_before, number_not_before, before_from_number, same_where_neither, cases_before, longer_writable}

-- a number between another and the end of its block is in that block
same_block : (c a w : ℕ) → 0 < w → c ≤ a → a < (c / w + 1) * w → a / w ≡ c / w
same_block c a w some above below =
    let start = div-mul-le_self c w in
    let whole : c / w * w + (a - c / w * w) ≡ a = omega (arith, start, above) in
    let rest : a - c / w * w < w = omega (arith, below, start, above) in
    ap (λ n. n / w) (sym whole) ∙ div-mul-add (c / w) w (a - c / w * w) rest

-- a prefix from another on, and before the end of a block in which that one is, is in the block too
in_block : (c r : Prefix) (len : ℕ) → IsPrefix c → IsPrefix r → len ≤ c.len → is_before r c ≡ false → r.addr < (c.addr / 2 ^ (32 - len) + 1) * 2 ^ (32 - len)
    → (r.addr / 2 ^ (32 - len) ≡ c.addr / 2 ^ (32 - len)) × (len ≤ r.len)
in_block c r len valid_c valid_r deep from below =
    let short_c = valid_c.short in
    let short_r = valid_r.short in
    let order = number_not_before r c short_r short_c from in
    let same = same_block c.addr r.addr (2 ^ (32 - len)) (pow_pos (32 - len)) (omega (arith, order, short_c, short_r)) below in (
      same,
      elim (cases_lt r.len len) [
        | inl shorter ↦
            let none = longer_writable r.addr r.len len (omega (arith, shorter)) (omega (arith, deep, short_c)) valid_r.no_host_bits in
            let whole = div-add-mod r.addr (2 ^ (32 - len)) in
            let start = div-mul-le_self c.addr (2 ^ (32 - len)) in
            let again : r.addr / 2 ^ (32 - len) * 2 ^ (32 - len) ≡ c.addr / 2 ^ (32 - len) * 2 ^ (32 - len) = ap (λ n. n * 2 ^ (32 - len)) same in
            absurd (omega (arith, shorter, none, whole, start, again, order, deep))
        | inr least ↦ least
      ],
    )

-- so it has the same bits before a level, and is longer than these, where that one is
pub in_level : (c r : Prefix) (level : ℕ) → IsPrefix c → IsPrefix r → depth_of level < c.len → is_before r c ≡ false
    → r.addr < (c.addr / 2 ^ (32 - depth_of level) + 1) * 2 ^ (32 - depth_of level)
    → (path_start (r.addr * 4) (depth_of level) ≡ path_start (c.addr * 4) (depth_of level)) × (depth_of level < r.len)
in_level c r level valid_c valid_r deep from below =
    let short = valid_c.short in
    let short_r = valid_r.short in
    let block = in_block c r (depth_of level) valid_c valid_r (omega (arith, deep)) from below in
    let order = number_not_before r c short_r short from in (
      path_bits r.addr (depth_of level) (omega (arith, deep, short)) ∙ block.0 ∙ sym (path_bits c.addr (depth_of level) (omega (arith, deep, short))),
      elim (cases_eq r.len (depth_of level)) [
        | inl same ↦
            let zero : r.addr % 2 ^ (32 - depth_of level) ≡ 0 = subst (λ n. r.addr % 2 ^ (32 - n) ≡ 0) same valid_r.no_host_bits in
            let whole = div-add-mod r.addr (2 ^ (32 - depth_of level)) in
            let start = div-mul-le_self c.addr (2 ^ (32 - depth_of level)) in
            let again : r.addr / 2 ^ (32 - depth_of level) * 2 ^ (32 - depth_of level) ≡ c.addr / 2 ^ (32 - depth_of level) * 2 ^ (32 - depth_of level) = ap (λ n. n * 2 ^ (32 - depth_of level)) block.0 in
            absurd (omega (arith, same, zero, whole, start, again, order, deep))
        | inr apart ↦ (let least = block.1 in omega (arith, least, apart))
      ],
    )

-- where no prefix from one on has an entry before the end of a block in which that one is, the first that may have one comes after the block
pub none_until_end : (entry : Prefix → Option Entry) (c : Prefix) (addr len : ℕ) (next : Option Prefix) → IsPrefix c → addr ≡ c.addr
    → ((r : Prefix) → IsPrefix r → is_before r c ≡ false → r.addr < (c.addr / 2 ^ (32 - len) + 1) * 2 ^ (32 - len) → entry r ≡ None)
    → IsFirstAt ((addr / 2 ^ (32 - len) + 1) * 2 ^ (32 - len)) next → IsFoundAt entry c (none_until next)
none_until_end entry c addr len next valid same none first = by_next next (subst (λ a. IsFirstAt ((a / 2 ^ (32 - len) + 1) * 2 ^ (32 - len)) next) same first)
  where
    by_next : (next : Option Prefix) → IsFirstAt ((c.addr / 2 ^ (32 - len) + 1) * 2 ^ (32 - len)) next → IsFoundAt entry c (none_until next)
    by_next None past = λ r valid_r from. let fits = valid_r.fits in none r valid_r from (omega (arith, fits, past))
    by_next (Some q) (valid_q, at, shortest) =
        let short_c = valid.short in
        let short_q = valid_q.short in
        let after : c.addr < c.addr / 2 ^ (32 - len) * 2 ^ (32 - len) + 2 ^ (32 - len) = lt-div-mul-add (pow_pos (32 - len)) in (
          valid_q,
          before_from_number c q short_c short_q (omega (arith, at, after, short_c)),
          λ r valid_r from before.
              let short_r = valid_r.short in
              let order = number_before r q short_r short_q before in
              none r valid_r from (elim (cases_eq r.addr q.addr) [
                | inl here ↦ absurd (omega (arith, order, here, shortest r valid_r (here ∙ at)))
                | inr apart ↦ omega (arith, order, apart, at, short_r, short_q)
              ]),
        )

module _ (t : Cells) (sound : IsSoundCells t) where
  -- where there is no block at a level, no prefix of the addresses there has a longer row
  none_in_block : (c r : Prefix) (level : ℕ) → IsPrefix c → IsPrefix r → t.first ≤ level → level ≤ 5 → depth_of level < c.len → block_at t (c.addr * 4) (level - t.first) ≡ 0 → is_before r c ≡ false
      → r.addr < (c.addr / 2 ^ (32 - depth_of level) + 1) * 2 ^ (32 - depth_of level) → entry_in t r ≡ None
  none_in_block c r level valid_c valid_r low high deep none from below =
      let on : t.first + (level - t.first) ≡ level = omega (arith, low) in
      let (bits, longer) = in_level c r level valid_c valid_r deep from below in
      let ended : block_at t (r.addr * 4) (level - t.first) ≡ 0 =
      block-same t (r.addr * 4) (c.addr * 4) (level - t.first) (omega (arith, on, high)) (subst (λ l. path_start (r.addr * 4) (depth_of l) ≡ path_start (c.addr * 4) (depth_of l)) (sym on) bits) ∙ none in
      ap (option_map word_entry) (none_below t sound.nowhere (r.addr * 4) (level - t.first) r.len ended (omega (arith, on, longer)))

  -- so the first that may have one comes after them
  pub none_until_past : (c : Prefix) (addr level : ℕ) (next : Option Prefix) → IsPrefix c → addr ≡ c.addr → t.first ≤ level → level ≤ 5 → depth_of level < c.len → block_at t (c.addr * 4) (level - t.first) ≡ 0
      → IsFirstAt ((addr / 2 ^ (32 - depth_of level) + 1) * 2 ^ (32 - depth_of level)) next → IsFoundAt (entry_in t) c (none_until next)
  none_until_past c addr level next valid same low high deep none first =
      none_until_end (entry_in t) c addr (depth_of level) next valid same (λ r valid_r from below. none_in_block c r level valid valid_r low high deep none from below) first

  -- where a prefix has no row, the first that may have one is the next
  pub none_until_next : (c : Prefix) (next : Option Prefix) → (entry_in t) c ≡ None → IsNextPrefix c next → IsFoundAt (entry_in t) c (none_until next)
  none_until_next c None none last = λ r valid from. elim (cases_before c r) [
    | inl above ↦ absurd (true≢false (sym above ∙ last r valid))
    | inr not_above ↦ ap (entry_in t) (same_where_neither r c from not_above) ∙ none
  ]
  none_until_next c (Some q) none (valid_q, after, least) = (
    valid_q,
    after,
    λ r valid from before. elim (cases_before c r) [
      | inl above ↦ absurd (true≢false (sym before ∙ least r valid above))
      | inr not_above ↦ ap (entry_in t) (same_where_neither r c from not_above) ∙ none
    ],
  )
