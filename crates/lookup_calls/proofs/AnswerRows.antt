-- The rows of answer words.
use Rattle.std.proofs.Common.{ℕ, ◌≡◌, ◌≢◌, inl, inr, ◌+◌, ◌-◌, ◌*◌, ◌/◌, ◌^◌, ◌<◌, ◌≤◌, Option, Some, None, arith, refl, sym, ap, subst, ◌∙◌, eq-eqb}
use Rattle.std.proofs.lemmas.Bool.{cases_eq, cond-true, cond-false, ne_eqb}
use Rattle.ipv4_prefix.specs.Prefix.{Prefix}
use Rattle.network_model.specs.{declared.route.Entry.Entry, declared.route.Entry.TheVariants.Local, declared.route.Entry.TheVariants.Via, declared.route.Entry.TheVariants.Unreachable}
use Rattle.array_bitmap.specs.Words.{nothing, len_of, kind_of, word_port, session_of, word_entry, row_word, answer_word, word_answer, IsReadBack}
use Rattle.c_interface.specs.Rows.{answer_row, entry_row}
use Rattle.lookup_calls.specs.Rows.{word_row}

-- the entry of a word, by its kind
entry_local : (w : ℕ) → kind_of w ≡ 0 → word_entry w ≡ Local
entry_local w k = cond-true _ _ _ (eq-eqb _ _ k)

entry_via : (w : ℕ) → kind_of w ≢ 0 → kind_of w ≡ 1 → word_entry w ≡ Via (word_port w) (session_of w)
entry_via w n k = cond-false _ _ _ (ne_eqb _ _ n) ∙ cond-true _ _ _ (eq-eqb _ _ k)

entry_nowhere : (w : ℕ) → kind_of w ≢ 0 → kind_of w ≢ 1 → word_entry w ≡ Unreachable
entry_nowhere w n m = cond-false _ _ _ (ne_eqb _ _ n) ∙ cond-false _ _ _ (ne_eqb _ _ m)

-- the parts of the word of a neighbour's row
via_parts : (w port session : ℕ) → word_entry w ≡ Via port session → (kind_of w ≡ 1) × (word_port w ≡ port) × (session_of w ≡ session)
via_parts w port session e = elim (cases_eq (kind_of w) 0) [
  | inl local ↦ let other : Local ≡ Via port session = sym (entry_local w local) ∙ e in absurd (cc other)
  | inr not_local ↦ elim (cases_eq (kind_of w) 1) [
    | inl via ↦
        let same : Via (word_port w) (session_of w) ≡ Via port session = sym (entry_via w not_local via) ∙ e in
        (via, cc same, cc same)
    | inr neither ↦ let other : Unreachable ≡ Via port session = sym (entry_nowhere w not_local neither) ∙ e in absurd (cc other)
  ]
]

module _ (addr : ℕ) (p : Prefix) (e : Entry) (w : ℕ) (len : p.len ≡ len_of w) (first : p.addr ≡ addr / 2 ^ (32 - len_of w) * 2 ^ (32 - len_of w)) where
  row_by : (kind port session : ℕ) → kind_of w ≡ kind → word_port w ≡ port → session_of w ≡ session
      → word_row addr w ≡ record { addr = p.addr; len = p.len; kind = kind; port = port; session = session }
  row_by kind port session k q s = cc (len, first, k, q, s)

-- the row of an answer's word is that of the answer
pub row_is : (addr : ℕ) (answer : Option (Prefix × Entry)) → addr < 2 ^ 32 → IsReadBack addr answer → word_row addr (answer_word answer) ≡ answer_row answer
row_is addr None fits read = ap (λ n. record { addr = n; len = 0; kind = 3; port = 0; session = 0 }) (omega (arith, fits))
row_is addr (Some (p, e)) fits read = elim (cases_eq (row_word p.len e) nothing) [
  | inl none ↦ let no_row : word_answer addr w ≡ None = cond-true _ _ _ (eq-eqb _ _ none) in absurd (cc (sym no_row ∙ read.back))
  | inr some ↦ let row : word_answer addr w ≡ Some shown = cond-false _ _ _ (ne_eqb _ nothing some) in by (ap part (sym row ∙ read.back))
]
  where
    w : ℕ
    w = row_word p.len e

    shown : Prefix × Entry
    shown = (record { addr = addr / 2 ^ (32 - len_of w) * 2 ^ (32 - len_of w); len = len_of w }, word_entry w)

    given : Prefix × Entry
    given = (p, e)

    part : Option (Prefix × Entry) → Prefix × Entry
    part None = given
    part (Some r) = r

    by : shown ≡ given → word_row addr (row_word p.len e) ≡ entry_row p e
    by same = by_entry e refl
      where
        len : p.len ≡ len_of w
        len = sym (ap (λ (r : Prefix × Entry). (r.0).len) same)

        first : p.addr ≡ addr / 2 ^ (32 - len_of w) * 2 ^ (32 - len_of w)
        first = sym (ap (λ (r : Prefix × Entry). (r.0).addr) same)

        entry : word_entry w ≡ e
        entry = ap (λ (r : Prefix × Entry). r.1) same

        by_entry : (x : Entry) → e ≡ x → word_row addr w ≡ entry_row p x
        by_entry Local is = let v : w ≡ 2 ^ 26 * p.len = ap (row_word p.len) is in
            row_by addr p e w len first 0 0 0 (omega (arith, v)) (omega (arith, v)) (omega (arith, v))
        by_entry (Via port session) is = let parts = via_parts w port session (entry ∙ is) in row_by addr p e w len first 1 port session parts.0 parts.1 parts.2
        by_entry Unreachable is = let v : w ≡ 2 * 2 ^ 24 + 2 ^ 26 * p.len = ap (row_word p.len) is in
            row_by addr p e w len first 2 0 0 (omega (arith, v)) (omega (arith, v)) (omega (arith, v))

-- and it has a length
pub row_short : (addr : ℕ) (answer : Option (Prefix × Entry)) (w : ℕ) → w ≡ answer_word answer → IsReadBack addr answer → len_of w ≤ 32
row_short addr answer w e read = subst (λ x. len_of x ≤ 32) (sym e) read.short
