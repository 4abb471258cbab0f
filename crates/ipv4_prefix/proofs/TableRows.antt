-- The rows of a table that is given by the entry of each prefix: they are in order, each prefix finds its entry among them, and no other rows in order do so.
use Rattle.std.proofs.Common.{refl, sym, ap, subst, ◌∙◌, arith, inl, inr, ◌≡◌, ◌⊎◌, ℕ, zero, suc, ◌+◌, ◌-◌, ◌*◌, ◌/◌, ◌%◌, ◌^◌, ◌<◌, ◌≤◌, Bool, true, false, cond, ◌&&◌, ◌==◌, nat_lt, nat_le, T, List, [], Option, Some, None, get_or}
use Rattle.std.specs.{FinMap.find as row_of, FinMap.put, FinMap.is_sorted, FinMap.Entries.is_sorted-put, FinMap.Entries.find-put, FinMap.Entries.same_entries}
use Rattle.std.proofs.lemmas.Bool.{cases_eq, and_parts, and_from, eqb-true, eq-eqb, ltb-true, lt-ltb, leb-true, le-leb, true≢false}
use Rattle.std.proofs.{lemmas.Option.none-some, lemmas.List.Elements.Contains-get_or}
use Rattle.ipv4_prefix.specs.Prefix.{Prefix, IsPrefix, prefix_cmp, prefix_eq}
use Rattle.ipv4_prefix.specs.LongestMatch.{longest_match, IsLongestIn, HasWritablePrefixes}
use Rattle.ipv4_prefix.specs.Tables.{is_writable, numbered, with_entry, rows_below, table_rows}
use Rattle.ipv4_prefix.proofs.{PrefixOrder.prefix_cmp_total, PrefixOrder.prefix_cmp-tied, PrefixOrder.prefix_eq-Decides, SortedRows.distinct_from_sorted, SortedRows.from_T, Tables.row_found, Tables.longest_in_rows}

-- ---- prefixes that can be written

-- a prefix that passes the test can be written
pub writable_from : (p : Prefix) → is_writable p ≡ true → IsPrefix p
writable_from p h =
    let all = and_parts (nat_le p.len 32 && nat_lt p.addr (2 ^ 32)) (p.addr % 2 ^ (32 - p.len) == 0) h in
    let bounds = and_parts (nat_le p.len 32) (nat_lt p.addr (2 ^ 32)) all.0 in
    record { short = leb-true _ _ bounds.0; fits = ltb-true _ _ bounds.1; no_host_bits = eqb-true _ _ all.1 }

-- one that can be written passes
pub writable_test : (p : Prefix) → IsPrefix p → is_writable p ≡ true
writable_test p h = and_from _ _ (and_from _ _ (le-leb _ _ h.short) (lt-ltb _ _ h.fits)) (eq-eqb _ _ h.no_host_bits)

abbrev number : Prefix → ℕ
number p = p.addr * 64 + p.len

numbered-number : (p : Prefix) → IsPrefix p → numbered (number p) ≡ p
numbered-number p h =
    let short = h.short in
    let addr : (p.addr * 64 + p.len) / 64 ≡ p.addr = omega (arith, short) in
    let len : (p.addr * 64 + p.len) % 64 ≡ p.len = omega (arith, short) in
    λ i. record { addr = addr i; len = len i }

number-numbered : (k : ℕ) → number (numbered k) ≡ k
number-numbered k = omega arith

-- different prefixes are told apart
apart : (p q : Prefix) → (p ≡ q → ⊥) → prefix_eq p q ≡ false
apart p q differ = by_test (prefix_eq p q) refl
  where
    by_test : (b : Bool) → prefix_eq p q ≡ b → prefix_eq p q ≡ false
    by_test true same = absurd (differ ((prefix_eq-Decides p q).0 same))
    by_test false is = is

-- ---- one row more

module _ {X : Type 0} (p : Prefix) (rows : List (Prefix × X)) where
  -- rows stay in order
  sorted_with : (o : Option X) → T (is_sorted prefix_cmp rows) → T (is_sorted prefix_cmp (with_entry p o rows))
  sorted_with None s = s
  sorted_with (Some x) s = by_test (is_writable p)
    where
      by_test : (b : Bool) → T (is_sorted prefix_cmp (cond b (put prefix_cmp p x rows) rows))
      by_test true = is_sorted-put prefix_cmp prefix_cmp_total p x rows s
      by_test false = s

  -- another prefix finds what it found
  find_with_other : (q : Prefix) (o : Option X) → (q ≡ p → ⊥) → row_of prefix_cmp q (with_entry p o rows) ≡ row_of prefix_cmp q rows
  find_with_other q None differ = refl
  find_with_other q (Some x) differ = by_test (is_writable p)
    where
      by_test : (b : Bool) → row_of prefix_cmp q (cond b (put prefix_cmp p x rows) rows) ≡ row_of prefix_cmp q rows
      by_test true = find-put prefix_cmp prefix_cmp_total q p x rows ∙ ap (λ b. cond b (Some x) (row_of prefix_cmp q rows)) (apart q p differ)
      by_test false = refl

  find_with_own : (o : Option X) → IsPrefix p → row_of prefix_cmp p rows ≡ None → row_of prefix_cmp p (with_entry p o rows) ≡ o
  find_with_own None h none = none
  find_with_own (Some x) h none =
      ap (λ b. row_of prefix_cmp p (cond b (put prefix_cmp p x rows) rows)) (writable_test p h)
      ∙ find-put prefix_cmp prefix_cmp_total p p x rows
      ∙ ap (λ b. cond b (Some x) (row_of prefix_cmp p rows)) ((prefix_eq-Decides p p).1 refl)

  -- a prefix that cannot be written finds nothing
  find_with_none : (o : Option X) → is_writable p ≡ false → row_of prefix_cmp p rows ≡ None → row_of prefix_cmp p (with_entry p o rows) ≡ None
  find_with_none None h none = none
  find_with_none (Some x) h none = ap (λ b. row_of prefix_cmp p (cond b (put prefix_cmp p x rows) rows)) h ∙ none

-- ---- the rows of a table

module _ {X : Type 0} (entry : Prefix → Option X) where
  below-sorted : (n : ℕ) → T (is_sorted prefix_cmp (rows_below entry n))
  unfolding rows_below
  below-sorted zero = tt
  below-sorted (suc k) = sorted_with (numbered k) (rows_below entry k) (entry (numbered k)) (below-sorted k)

  -- a prefix with a number from n on has no row among the first n
  row_after : (q : Prefix) → (n : ℕ) → n ≤ number q → row_of prefix_cmp q (rows_below entry n) ≡ None
  unfolding rows_below
  row_after q zero h = refl
  row_after q (suc k) h =
      find_with_other (numbered k) (rows_below entry k) q (entry (numbered k)) (λ e. let at : number q ≡ k = ap number e ∙ number-numbered k in omega (arith, h, at))
      ∙ row_after q k (omega (arith, h))

  -- one with a number below n finds its entry
  row_before : (q : Prefix) → IsPrefix q → (n : ℕ) → number q < n → row_of prefix_cmp q (rows_below entry n) ≡ entry q
  unfolding rows_below
  row_before q valid zero h = absurd (omega (arith, h))
  row_before q valid (suc k) h = elim (cases_eq (number q) k) [
    | inl here ↦
        let at : numbered k ≡ q = ap numbered (sym here) ∙ numbered-number q valid in
        subst (λ p. row_of prefix_cmp q (with_entry p (entry p) (rows_below entry k)) ≡ entry q) (sym at)
        (find_with_own q (rows_below entry k) (entry q) valid (row_after q k (omega (arith, here))))
    | inr other ↦ find_with_other (numbered k) (rows_below entry k) q (entry (numbered k)) (λ e. other (ap number e ∙ number-numbered k)) ∙ row_before q valid k (omega (arith, h, other))
  ]

  -- one that cannot be written has no row
  no_row_below : (q : Prefix) → is_writable q ≡ false → (n : ℕ) → row_of prefix_cmp q (rows_below entry n) ≡ None
  unfolding rows_below
  no_row_below q h zero = refl
  no_row_below q h (suc k) = by_case (no_row_below q h k) (cases_prefix (prefix_eq q (numbered k)) refl)
    where
      cases_prefix : (b : Bool) → prefix_eq q (numbered k) ≡ b → (q ≡ numbered k) ⊎ (q ≡ numbered k → ⊥)
      cases_prefix true same = inl ((prefix_eq-Decides q (numbered k)).0 same)
      cases_prefix false is = inr (λ e. true≢false (sym ((prefix_eq-Decides q (numbered k)).1 e) ∙ is))

      by_case : row_of prefix_cmp q (rows_below entry k) ≡ None → (q ≡ numbered k) ⊎ (q ≡ numbered k → ⊥) → row_of prefix_cmp q (with_entry (numbered k) (entry (numbered k)) (rows_below entry k)) ≡ None
      by_case none (inl same) = subst (λ p. row_of prefix_cmp q (with_entry p (entry p) (rows_below entry k)) ≡ None) same (find_with_none q (rows_below entry k) (entry q) h none)
      by_case none (inr other) = find_with_other (numbered k) (rows_below entry k) q (entry (numbered k)) other ∙ none

  -- the rows are in order
  pub table_rows-sorted : T (is_sorted prefix_cmp (table_rows entry))
  unfolding table_rows
  table_rows-sorted = below-sorted (2 ^ 38)

  -- each prefix finds its entry
  pub row_of-table : (q : Prefix) → IsPrefix q → row_of prefix_cmp q (table_rows entry) ≡ entry q
  unfolding table_rows
  row_of-table q valid = let short = valid.short in let fits = valid.fits in row_before q valid (2 ^ 38) (omega (arith, short, fits))

  -- one that cannot be written finds nothing
  pub row_of-unwritable : (q : Prefix) → is_writable q ≡ false → row_of prefix_cmp q (table_rows entry) ≡ None
  unfolding table_rows
  row_of-unwritable q h = no_row_below q h (2 ^ 38)

-- rows among which no prefix that cannot be written is found have prefixes that can be written
pub writable_rows : {X : Type 0} (rows : List (Prefix × X)) → ((q : Prefix) → is_writable q ≡ false → row_of prefix_cmp q rows ≡ None) → HasWritablePrefixes rows
writable_rows rows none i d within = by_test (is_writable (get_or rows i d).0) refl
  where
    by_test : (b : Bool) → is_writable (get_or rows i d).0 ≡ b → IsPrefix (get_or rows i d).0
    by_test true h = writable_from (get_or rows i d).0 h
    by_test false h =
        let (x, found) = row_found (get_or rows i d) rows (Contains-get_or rows i d within) in
        absurd (none-some x (sym (none (get_or rows i d).0 h) ∙ found))

module _ {X : Type 0} where
  -- rows in order, among which each prefix finds its entry and no other finds one, are the rows of the table
  pub table_rows_unique : (entry : Prefix → Option X) (rows : List (Prefix × X)) → T (is_sorted prefix_cmp rows) → ((q : Prefix) → is_writable q ≡ false → row_of prefix_cmp q rows ≡ None) → ((q : Prefix) → IsPrefix q → row_of prefix_cmp q rows ≡ entry q)
      → table_rows entry ≡ rows
  table_rows_unique entry rows sorted none found = same_entries prefix_cmp prefix_cmp_total prefix_cmp-tied (table_rows entry) rows (table_rows-sorted entry) sorted (λ q. by_test q (is_writable q) refl)
    where
      by_test : (q : Prefix) (b : Bool) → is_writable q ≡ b → row_of prefix_cmp q (table_rows entry) ≡ row_of prefix_cmp q rows
      by_test q true h = let valid = writable_from q h in row_of-table entry q valid ∙ sym (found q valid)
      by_test q false h = row_of-unwritable entry q h ∙ sym (none q h)

  -- a table without entries has no rows
  pub table_rows-empty : (entry : Prefix → Option X) → ((q : Prefix) → entry q ≡ None) → table_rows entry ≡ []
  table_rows-empty entry none = table_rows_unique entry [] tt (λ q h. refl) (λ q valid. sym (none q))

  -- the rows of a table in which one entry was set are its rows with that one put
  pub table_rows-put : (entry : Prefix → Option X) (p : Prefix) (x : X) (after : Prefix → Option X) → IsPrefix p → ((q : Prefix) → IsPrefix q → after q ≡ cond (prefix_eq q p) (Some x) (entry q)) → table_rows after ≡ put prefix_cmp p x (table_rows entry)
  table_rows-put entry p x after valid set =
      table_rows_unique after (put prefix_cmp p x (table_rows entry)) (is_sorted-put prefix_cmp prefix_cmp_total p x (table_rows entry) (table_rows-sorted entry))
      (λ q h. found q ∙ ap (λ b. cond b (Some x) (row_of prefix_cmp q (table_rows entry))) (apart q p (λ same. true≢false (sym (writable_test p valid) ∙ ap is_writable (sym same) ∙ h))) ∙ row_of-unwritable entry q h)
      (λ q ok. found q ∙ ap (cond (prefix_eq q p) (Some x)) (row_of-table entry q ok) ∙ sym (set q ok))
    where
      found : (q : Prefix) → row_of prefix_cmp q (put prefix_cmp p x (table_rows entry)) ≡ cond (prefix_eq q p) (Some x) (row_of prefix_cmp q (table_rows entry))
      found q = find-put prefix_cmp prefix_cmp_total q p x (table_rows entry)

  -- the longest match by the entries is that of the rows
  pub longest_in_table : (entry : Prefix → Option X) (addr : ℕ) (found : Option (Prefix × X)) → IsLongestIn entry addr found → longest_match addr (table_rows entry) ≡ found
  longest_in_table entry addr found = longest_in_rows entry addr (table_rows entry) (writable_rows (table_rows entry) (row_of-unwritable entry)) (distinct_from_sorted (table_rows entry) (from_T _ (table_rows-sorted entry)))
      (λ q valid. sym (row_of-table entry q valid)) found

-- tables with the same entries have the same rows
pub table_rows-same : {X : Type 0} (f g : Prefix → Option X) → ((q : Prefix) → IsPrefix q → f q ≡ g q) → table_rows f ≡ table_rows g
table_rows-same f g same = table_rows_unique f (table_rows g) (table_rows-sorted g) (row_of-unwritable g) (λ q valid. row_of-table g q valid ∙ sym (same q valid))
