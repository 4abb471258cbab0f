-- The order of prefixes by numbers, and the first prefix at an address.
use Rattle.std.proofs.Common.{ℕ, zero, suc, ◌≡◌, ◌⊎◌, inl, inr, ◌+◌, ◌-◌, ◌*◌, ◌/◌, ◌%◌, ◌^◌, ◌<◌, ◌≤◌, ◌==◌, Bool, true, false, cond, Option, Some, None, arith, refl, sym, ap, subst, ◌∙◌, Ordering}
use Rattle.std.specs.{declared.cmp.Ordering.TheVariants.Less, declared.cmp.Ordering.TheVariants.Equal, declared.cmp.Ordering.TheVariants.Greater, Ordering.is_lt, Ordering.ordering_reverse, Int.Count.count_trailing_zeros, Int.Count.under}
use Rattle.std.proofs.lemmas.Bool.{cases_order, cases_lt, cases_eq, lt-ltb, le-ltb, eq-eqb, ne_eqb, true≢false}
use Rattle.std.proofs.{lemmas.Cmp.tied_itself, lemmas.Nat.mod-pow-add, lemmas.Nat.trailing_le, Math.Nat.zero-mod, Math.Pow.mod-mod-pow}
use Rattle.ipv4_prefix.specs.Prefix.{Prefix, IsPrefix, covers, prefix_cmp}
use Rattle.ipv4_prefix.proofs.{LongestMatches.covering_same, PrefixOrder.prefix_cmp_total, PrefixOrder.prefix_cmp-tied, PrefixOrder.less_from_test}
use Rattle.array_bitmap.specs.Cursor.{is_before, IsNextPrefix, IsFirstAt}

-- ---- the order by numbers

abbrev pub number : Prefix → ℕ
number p = p.addr * 64 + p.len

not_less : (b : Bool) → is_lt (cond b Equal Greater) ≡ false
not_less true = refl
not_less false = refl

-- a smaller number comes before
pub before_from_number : (p q : Prefix) → p.len ≤ 32 → q.len ≤ 32 → number p < number q → is_before p q ≡ true
before_from_number p q short_p short_q less = elim (cases_order p.addr q.addr) [
  | inl same ↦ rw (le-ltb p.addr q.addr (omega arith), eq-eqb p.addr q.addr same, lt-ltb p.len q.len (omega arith)) refl
  | inr (inl below) ↦ rw (lt-ltb p.addr q.addr below) refl
  | inr (inr above) ↦ absurd (omega arith)
]

pub not_before_from_number : (p q : Prefix) → p.len ≤ 32 → q.len ≤ 32 → number q ≤ number p → is_before p q ≡ false
not_before_from_number p q short_p short_q least = elim (cases_order p.addr q.addr) [
  | inl same ↦ rw (le-ltb p.addr q.addr (omega arith), eq-eqb p.addr q.addr same, le-ltb p.len q.len (omega arith)) (not_less (p.len == q.len))
  | inr (inl below) ↦ absurd (omega arith)
  | inr (inr above) ↦ rw (le-ltb p.addr q.addr (omega arith), ne_eqb p.addr q.addr (λ e. omega (arith, e, above))) refl
]

-- what comes before has a smaller number
pub number_before : (p q : Prefix) → p.len ≤ 32 → q.len ≤ 32 → is_before p q ≡ true → number p < number q
number_before p q short_p short_q before = elim (cases_lt (number p) (number q)) [
  | inl less ↦ less
  | inr least ↦ absurd (true≢false (sym before ∙ not_before_from_number p q short_p short_q least))
]

-- and what does not has none
pub number_not_before : (p q : Prefix) → p.len ≤ 32 → q.len ≤ 32 → is_before p q ≡ false → number q ≤ number p
number_not_before p q short_p short_q not_before = elim (cases_lt (number p) (number q)) [
  | inl less ↦ absurd (true≢false (sym (before_from_number p q short_p short_q less) ∙ not_before))
  | inr least ↦ least
]

-- ---- the order by itself

-- no prefix comes before itself
pub before_itself : (p : Prefix) → is_before p p ≡ false
before_itself p = ap is_lt (tied_itself prefix_cmp_total p)

-- of two, one at most comes before the other
pub before_one_way : (p q : Prefix) → is_before p q ≡ true → is_before q p ≡ false
before_one_way p q before = ap is_lt (prefix_cmp_total.antisymm q p ∙ ap ordering_reverse (less_from_test (prefix_cmp p q) before))

-- what comes before the one comes before what comes after it
pub before_chain : (p q r : Prefix) → is_before p q ≡ true → is_before q r ≡ true → is_before p r ≡ true
before_chain p q r first second = ap is_lt (prefix_cmp_total.trans p q r (less_from_test _ first) (less_from_test _ second))

-- where neither comes before the other, they are one
pub same_where_neither : (p q : Prefix) → is_before p q ≡ false → is_before q p ≡ false → p ≡ q
same_where_neither p q not_first not_second = by_order (prefix_cmp p q) refl
  where
    by_order : (o : Ordering) → prefix_cmp p q ≡ o → p ≡ q
    by_order Less is = absurd (true≢false (sym (ap is_lt is) ∙ not_first))
    by_order Equal is = prefix_cmp-tied p q is
    by_order Greater is = absurd (true≢false (sym (ap is_lt (prefix_cmp_total.antisymm q p ∙ ap ordering_reverse is)) ∙ not_second))

-- either comes before or does not
pub cases_before : (p q : Prefix) → (is_before p q ≡ true) ⊎ (is_before p q ≡ false)
cases_before p q = by_test (is_before p q) refl
  where
    by_test : (b : Bool) → is_before p q ≡ b → (is_before p q ≡ true) ⊎ (is_before p q ≡ false)
    by_test true is = inl is
    by_test false is = inr is

-- ---- trailing zeros

-- the last bits of a number: the lowest, and those of its half
halved : (n t : ℕ) → n % 2 ^ suc t ≡ n / 2 % 2 ^ t * 2 + n % 2
halved n t =
    let e : suc t ≡ t + 1 = omega arith in
    ap (λ k. n % 2 ^ k) e ∙ mod-pow-add n t 1

-- a number has no bits among its trailing zeros
pub no_trailing_bits : (k n : ℕ) → n % 2 ^ count_trailing_zeros k n ≡ 0
unfolding count_trailing_zeros
no_trailing_bits zero n = omega arith
no_trailing_bits (suc k) n = by_lowest (n % 2) refl (no_trailing_bits k (n / 2))
  where
    by_lowest : (d : ℕ) → n % 2 ≡ d → n / 2 % 2 ^ count_trailing_zeros k (n / 2) ≡ 0 → n % 2 ^ under d (count_trailing_zeros k (n / 2)) ≡ 0
    by_lowest zero even rest = omega (arith, halved n (count_trailing_zeros k (n / 2)), even, rest)
    by_lowest (suc d) odd rest = omega arith

-- and no more bits below
pub most_trailing_bits : (k n m : ℕ) → m ≤ k → n % 2 ^ m ≡ 0 → m ≤ count_trailing_zeros k n
unfolding count_trailing_zeros
most_trailing_bits zero n m within none = within
most_trailing_bits (suc k) n zero within none = omega arith
most_trailing_bits (suc k) n (suc m) within none = by_lowest (n % 2) refl (most_trailing_bits k (n / 2) m (omega (arith, within)))
  where
    by_lowest : (d : ℕ) → n % 2 ≡ d → (n / 2 % 2 ^ m ≡ 0 → m ≤ count_trailing_zeros k (n / 2)) → suc m ≤ under d (count_trailing_zeros k (n / 2))
    by_lowest zero even rest =
        let bits : n / 2 % 2 ^ m ≡ 0 = omega (arith, halved n m, none, even) in
        omega (arith, rest bits)
    by_lowest (suc d) odd rest = absurd (omega (arith, halved n m, none, odd))

-- ---- prefixes at an address

-- an address with no bits after a length has none after a greater one
pub longer_writable : (addr len more : ℕ) → len ≤ more → more ≤ 32 → addr % 2 ^ (32 - len) ≡ 0 → addr % 2 ^ (32 - more) ≡ 0
longer_writable addr len more above short none =
    let e : more - len + (32 - more) ≡ 32 - len = omega arith in
    let z : 0 % 2 ^ (32 - more) ≡ 0 = zero-mod (2 ^ (32 - more)) in
    sym (mod-mod-pow addr (more - len) (32 - more)) ∙ ap (λ k. addr % 2 ^ k % 2 ^ (32 - more)) e ∙ ap (λ n. n % 2 ^ (32 - more)) none ∙ z

-- a prefix that covers an address with no bits after the prefix begins there
pub covering_itself : (addr : ℕ) (p : Prefix) → IsPrefix p → covers p addr ≡ true → addr < 2 ^ 32 → addr % 2 ^ (32 - p.len) ≡ 0 → p.addr ≡ addr
covering_itself addr p valid covered fits none =
    ap (λ (x : Prefix). x.addr) (covering_same addr p (record { addr = addr; len = p.len }) valid (record { short = valid.short; fits = fits; no_host_bits = none }) covered (eq-eqb _ _ refl) refl)

module _ (addr len : ℕ) (is : len ≡ 32 - count_trailing_zeros 32 addr) where
  -- the shortest prefix at an address can be written
  pub shortest_writable : addr % 2 ^ (32 - len) ≡ 0
  shortest_writable =
      let e : count_trailing_zeros 32 addr ≡ 32 - len = omega (arith, is, trailing_le 32 addr) in
      subst (λ k. addr % 2 ^ k ≡ 0) e (no_trailing_bits 32 addr)

  -- and no shorter one can
  pub shortest_is_least : (r : Prefix) → IsPrefix r → r.addr ≡ addr → len ≤ r.len
  shortest_is_least r valid at =
      let short = valid.short in
      let bits : addr % 2 ^ (32 - r.len) ≡ 0 = subst (λ a. a % 2 ^ (32 - r.len) ≡ 0) at valid.no_host_bits in
      omega (arith, is, short, most_trailing_bits 32 addr (32 - r.len) (omega arith) bits)

-- ---- the next prefix

-- at the same address it is one bit longer
pub next_longer : (p q : Prefix) → IsPrefix p → IsPrefix q → q.addr ≡ p.addr → q.len ≡ p.len + 1 → IsNextPrefix p (Some q)
next_longer p q valid_p valid_q same longer =
    let short_p = valid_p.short in
    let short_q = valid_q.short in (
      valid_q,
      before_from_number p q short_p short_q (omega (arith, same, longer)),
      λ r valid_r before. let short_r = valid_r.short in
          not_before_from_number r q short_r short_q (omega (arith, same, longer, number_before p r short_p short_r before)),
    )

-- after a prefix of 32 bits it is the first at the next address
pub next_address : (p : Prefix) (next : Option Prefix) → IsPrefix p → p.len ≡ 32 → IsFirstAt (p.addr + 1) next → IsNextPrefix p next
next_address p None valid whole past = λ r valid_r.
    let fits_r = valid_r.fits in
    let short_r = valid_r.short in
    not_before_from_number p r valid.short short_r (omega (arith, whole, past, fits_r, short_r))
next_address p (Some q) valid whole (valid_q, at, shortest) =
    let short_p = valid.short in
    let short_q = valid_q.short in (
      valid_q,
      before_from_number p q short_p short_q (omega (arith, at, whole)),
      λ r valid_r before.
          let short_r = valid_r.short in
          let above = number_before p r short_p short_r before in
          elim (cases_eq r.addr (p.addr + 1)) [
            | inl same ↦ not_before_from_number r q short_r short_q (omega (arith, same, at, shortest r valid_r same))
            | inr apart ↦ not_before_from_number r q short_r short_q (omega (arith, apart, at, above, whole, short_r, short_q))
          ],
    )

-- no prefix comes before the one of no bits
pub first_of_all : (p r : Prefix) → IsPrefix p → p.len ≡ 0 → IsPrefix r → is_before r p ≡ false
first_of_all p r valid none valid_r =
    let fits = valid.fits in
    let short = valid_r.short in
    let bits : p.addr % 2 ^ (32 - 0) ≡ 0 = subst (λ n. p.addr % 2 ^ (32 - n) ≡ 0) none valid.no_host_bits in
    not_before_from_number r p short valid.short (omega (arith, none, bits, fits))
