-- Rows in order, from a prefix on.
use Rattle.std.proofs.Common.{length, ◌<◌, ◌^◌, ◌≡◌, inl, inr, true, false, not, cond, List, [], ◌∷◌, Option, Some, None, Contains, slice_get, arith, refl, sym, ap, subst, ◌∙◌}
use Rattle.std.specs.{FinMap.is_sorted, FinMap.Entries.below_all}
use Rattle.std.proofs.{lemmas.Bool.and_parts, lemmas.Bool.true≢false, lemmas.Option.same_Some, lemmas.Option.none-some, lemmas.List.Elements.All-contains}
use Rattle.ipv4_prefix.specs.{Prefix.Prefix, Prefix.IsPrefix, Prefix.prefix_cmp, Tables.table_rows}
use Rattle.ipv4_prefix.proofs.{LongestMatches.Contains-first, LongestMatches.Contains-later, LongestMatches.Contains-cases, SortedRows.distinct_from_sorted, SortedRows.from_T, Tables.row_of-Contains, Tables.row_of-row}
use Rattle.ipv4_prefix.proofs.TableRows.{table_rows-sorted, row_of-table, row_of-unwritable, writable_rows}
use Rattle.array_bitmap.specs.Cursor.{is_before, rows_from, first_row_from, rows_onward, IsNextPrefix, IsHeadFrom}
use Rattle.array_bitmap.proofs.PrefixNumbers.{number, number_before, number_not_before, before_itself, before_one_way, before_chain, same_where_neither, cases_before}

module _ {X : Type 0} where
  -- a prefix before all rows is before each
  before_each : (p : Prefix) (rows : List (Prefix × X)) (r : Prefix × X) → below_all prefix_cmp p rows ≡ true → Contains rows r → is_before p r.0 ≡ true
  before_each p [] r below is_row = absurd (omega (arith, is_row.1))
  before_each p (s ∷ rows) r below is_row = elim (Contains-cases s rows r is_row) [
    | inl first ↦ ap (λ (x : Prefix × X). is_before p x.0) (sym first) ∙ (and_parts _ _ below).0
    | inr later ↦ before_each p rows r (and_parts _ _ below).1 later
  ]

  -- where no row comes before a prefix, all are from it on
  pub all_from : (p : Prefix) (rows : List (Prefix × X)) → ((r : Prefix × X) → Contains rows r → is_before r.0 p ≡ false) → rows_from p rows ≡ rows
  all_from p [] none = refl
  all_from p (s ∷ rows) none =
      ap (λ b. cond (not b) (s ∷ rows_from p rows) (rows_from p rows)) (none s (Contains-first s rows))
      ∙ ap (λ rs. s ∷ rs) (all_from p rows (λ r is_row. none r (Contains-later s rows r is_row)))

  -- a row before the prefix is left out
  without_first : (p : Prefix) (s : Prefix × X) (rows : List (Prefix × X)) → is_before s.0 p ≡ true → rows_from p (s ∷ rows) ≡ rows_from p rows
  without_first p s rows before = ap (λ b. cond (not b) (s ∷ rows_from p rows) (rows_from p rows)) before

  -- a row that is not before it stays
  with_first : (p : Prefix) (s : Prefix × X) (rows : List (Prefix × X)) → is_before s.0 p ≡ false → rows_from p (s ∷ rows) ≡ s ∷ rows_from p rows
  with_first p s rows not_before = ap (λ b. cond (not b) (s ∷ rows_from p rows) (rows_from p rows)) not_before

  module _ (at : Prefix) where
    first_row_from-none : (rows : List (Prefix × X)) → first_row_from at rows ≡ None → (r : Prefix × X) → Contains rows r → is_before r.0 at ≡ true
    first_row_from-none [] none r is_row = absurd (omega (arith, is_row.1))
    first_row_from-none (s ∷ rows) none r is_row = elim (cases_before s.0 at) [
      | inl before ↦ elim (Contains-cases s rows r is_row) [
        | inl first ↦ ap (λ (x : Prefix × X). is_before x.0 at) (sym first) ∙ before
        | inr later ↦ first_row_from-none rows (ap (λ rs. slice_get rs 0) (sym (without_first at s rows before)) ∙ none) r later
      ]
      | inr not_before ↦ absurd (none-some s (sym none ∙ ap (λ rs. slice_get rs 0) (with_first at s rows not_before)))
    ]

    -- the first row is the least from the prefix on
    first_row_from-found : (rows : List (Prefix × X)) (found : Prefix × X) → is_sorted prefix_cmp rows ≡ true → first_row_from at rows ≡ Some found
        → Contains rows found × (is_before found.0 at ≡ false) × ((r : Prefix × X) → Contains rows r → is_before r.0 at ≡ false → is_before r.0 found.0 ≡ false)
    first_row_from-found [] found sorted is = absurd (none-some found is)
    first_row_from-found (s ∷ rows) found sorted is = elim (cases_before s.0 at) [
      | inl before ↦
          let rest = first_row_from-found rows found (and_parts _ _ sorted).1 (ap (λ rs. slice_get rs 0) (sym (without_first at s rows before)) ∙ is) in (
            Contains-later s rows found rest.0,
            rest.1,
            λ r is_row not_before. elim (Contains-cases s rows r is_row) [
              | inl first ↦ absurd (true≢false (sym (ap (λ (x : Prefix × X). is_before x.0 at) (sym first) ∙ before) ∙ not_before))
              | inr later ↦ rest.2 r later not_before
            ],
          )
      | inr not_before ↦
          let here : s ≡ found = same_Some _ _ (sym (ap (λ rs. slice_get rs 0) (with_first at s rows not_before)) ∙ is) in
          subst (λ (x : Prefix × X). Contains (s ∷ rows) x × (is_before x.0 at ≡ false) × ((r : Prefix × X) → Contains (s ∷ rows) r → is_before r.0 at ≡ false → is_before r.0 x.0 ≡ false)) here (
            Contains-first s rows,
            not_before,
            λ r is_row from. elim (Contains-cases s rows r is_row) [
              | inl first ↦ ap (λ (x : Prefix × X). is_before x.0 s.0) (sym first) ∙ before_itself s.0
              | inr later ↦ before_one_way s.0 r.0 (before_each s.0 rows r (and_parts _ _ sorted).0 later)
            ],
          )
    ]

    -- the rows from the first one's prefix on are that row and those from the next prefix on
    rows_from-next : (rows : List (Prefix × X)) (found : Prefix × X) (next : Prefix) → is_sorted prefix_cmp rows ≡ true → ((r : Prefix × X) → Contains rows r → IsPrefix r.0)
        → first_row_from at rows ≡ Some found → IsNextPrefix found.0 (Some next) → rows_from at rows ≡ found ∷ rows_from next rows
    rows_from-next [] found next sorted valid is after = absurd (none-some found is)
    rows_from-next (s ∷ rows) found next sorted valid is after = elim (cases_before s.0 at) [
      | inl before ↦
          let onward = ap (λ rs. slice_get rs 0) (sym (without_first at s rows before)) ∙ is in
          let is_row = (first_row_from-found rows found (and_parts _ _ sorted).1 onward).0 in
          let before_next = before_chain s.0 found.0 next (before_each s.0 rows found (and_parts _ _ sorted).0 is_row) after.1 in
          without_first at s rows before
          ∙ rows_from-next rows found next (and_parts _ _ sorted).1 (λ r is_row. valid r (Contains-later s rows r is_row)) onward after
          ∙ ap (λ rs. found ∷ rs) (sym (without_first next s rows before_next))
      | inr not_before ↦
          let here : s ≡ found = same_Some _ _ (sym (ap (λ rs. slice_get rs 0) (with_first at s rows not_before)) ∙ is) in
          let before_next = ap (λ (x : Prefix × X). is_before x.0 next) here ∙ after.1 in
          let rest_at = all_from at rows (λ r is_row. not_before_at s.0 r.0 not_before (before_each s.0 rows r (and_parts _ _ sorted).0 is_row)) in
          let rest_next = all_from next rows (λ r is_row. after.2 r.0 (valid r (Contains-later s rows r is_row))
          (ap (λ (x : Prefix × X). is_before x.0 r.0) (sym here) ∙ before_each s.0 rows r (and_parts _ _ sorted).0 is_row)) in
          with_first at s rows not_before ∙ ap (λ rs. s ∷ rs) (rest_at ∙ sym rest_next) ∙ ap (λ x. x ∷ rows_from next rows) here
          ∙ ap (λ rs. found ∷ rs) (sym (without_first next s rows before_next))
    ]
      where
        not_before_at : (p q : Prefix) → is_before p at ≡ false → is_before p q ≡ true → is_before q at ≡ false
        not_before_at p q from above = elim (cases_before q at) [
          | inl below ↦ absurd (true≢false (sym (before_chain p q at above below) ∙ from))
          | inr is ↦ is
        ]

    -- where no prefix comes after it, that row is the last
    rows_from-last : (rows : List (Prefix × X)) (found : Prefix × X) → is_sorted prefix_cmp rows ≡ true → ((r : Prefix × X) → Contains rows r → IsPrefix r.0)
        → first_row_from at rows ≡ Some found → IsNextPrefix found.0 None → rows_from at rows ≡ found ∷ []
    rows_from-last [] found sorted valid is last = absurd (none-some found is)
    rows_from-last (s ∷ rows) found sorted valid is last = elim (cases_before s.0 at) [
      | inl before ↦
          without_first at s rows before
          ∙ rows_from-last rows found (and_parts _ _ sorted).1 (λ r is_row. valid r (Contains-later s rows r is_row)) (ap (λ rs. slice_get rs 0) (sym (without_first at s rows before)) ∙ is) last
      | inr not_before ↦
          let here : s ≡ found = same_Some _ _ (sym (ap (λ rs. slice_get rs 0) (with_first at s rows not_before)) ∙ is) in
          let none : rows ≡ [] = no_more rows (λ r is_row. true≢false (sym (ap (λ (x : Prefix × X). is_before x.0 r.0) (sym here) ∙ before_each s.0 rows r (and_parts _ _ sorted).0 is_row)
          ∙ last r.0 (valid r (Contains-later s rows r is_row)))) in
          with_first at s rows not_before ∙ ap (λ rs. s ∷ rows_from at rs) none ∙ ap (λ x. x ∷ []) here
    ]
      where
        no_more : (rs : List (Prefix × X)) → ((r : Prefix × X) → Contains rs r → ⊥) → rs ≡ []
        no_more [] none = refl
        no_more (r ∷ rs) none = absurd (none r (Contains-first r rs))

-- what a walk over the prefixes finds: an entry at one, and none from the start on before it; or none from the start on
abbrev pub IsFirstIn : {X : Type 0} → (Prefix → Option X) → Prefix → Option (Prefix × X) → Type 0
IsFirstIn entry at None = (r : Prefix) → IsPrefix r → is_before r at ≡ false → entry r ≡ None
IsFirstIn entry at (Some found) = IsPrefix found.0 × (is_before found.0 at ≡ false) × (entry found.0 ≡ Some found.1) × ((r : Prefix) → IsPrefix r → is_before r at ≡ false → is_before r found.0 ≡ true → entry r ≡ None)

module _ {X : Type 0} (entry : Prefix → Option X) where
  -- the rows of a table are in order
  pub table_in_order : is_sorted prefix_cmp (table_rows entry) ≡ true
  table_in_order = from_T _ (table_rows-sorted entry)

  -- and can be written
  pub table_writable : (r : Prefix × X) → Contains (table_rows entry) r → IsPrefix r.0
  table_writable r = All-contains (λ x. IsPrefix x.0) (table_rows entry) r (writable_rows (table_rows entry) (row_of-unwritable entry))

  entry_of_row : (r : Prefix × X) → Contains (table_rows entry) r → entry r.0 ≡ Some r.1
  entry_of_row r is_row = sym (row_of-table entry r.0 (table_writable r is_row)) ∙ row_of-row (table_rows entry) r (distinct_from_sorted (table_rows entry) table_in_order) is_row

  row_of_entry : (p : Prefix) (x : X) → IsPrefix p → entry p ≡ Some x → Contains (table_rows entry) (p, x)
  row_of_entry p x valid is = row_of-Contains p x (table_rows entry) (row_of-table entry p valid ∙ is)

  -- what the walk finds is the first row
  pub first_in_table : (at : Prefix) (found : Option (Prefix × X)) → IsFirstIn entry at found → first_row_from at (table_rows entry) ≡ found
  first_in_table at found first = by_case found first (first_row_from at (table_rows entry)) refl
    where
      by_case : (found : Option (Prefix × X)) → IsFirstIn entry at found → (o : Option (Prefix × X)) → first_row_from at (table_rows entry) ≡ o → o ≡ found
      by_case None none None is = refl
      by_case None none (Some f) is =
          let (is_row, from, least) = first_row_from-found at (table_rows entry) f table_in_order is in
          absurd (none-some f.1 (sym (none f.0 (table_writable f is_row) from) ∙ entry_of_row f is_row))
      by_case (Some g) (valid, from, has, before) None is =
          absurd (true≢false (sym (first_row_from-none at (table_rows entry) is g (row_of_entry g.0 g.1 valid has)) ∙ from))
      by_case (Some g) (valid, from, has, before) (Some f) is =
          let (is_row, from_f, least) = first_row_from-found at (table_rows entry) f table_in_order is in
          let same : f.0 ≡ g.0 = same_where_neither f.0 g.0 (elim (cases_before f.0 g.0) [
            | inl below ↦ absurd (none-some f.1 (sym (before f.0 (table_writable f is_row) from_f below) ∙ entry_of_row f is_row))
            | inr not_below ↦ not_below
          ]) (least g (row_of_entry g.0 g.1 valid has) from) in
          let entries : f.1 ≡ g.1 = same_Some _ _ (sym (entry_of_row f is_row) ∙ ap entry same ∙ has) in
          λ i. Some (same i, entries i)

  -- its first row goes before those from the next prefix on
  pub head_of_table : (at : Prefix) (found : Prefix × X) → first_row_from at (table_rows entry) ≡ Some found → IsHeadFrom at (table_rows entry) found
  head_of_table at found is = by_next
    where
      by_next : (next : Option Prefix) → IsNextPrefix found.0 next → rows_from at (table_rows entry) ≡ found ∷ rows_onward next (table_rows entry)
      by_next None last = rows_from-last at (table_rows entry) found table_in_order table_writable is last
      by_next (Some next) after = rows_from-next at (table_rows entry) found next table_in_order table_writable is after

  -- the next prefix after the first row's has a greater number than the one before it, and all numbers are small
  pub number_onward : (at : Prefix) (found : Prefix × X) (next : Prefix) → IsPrefix at → first_row_from at (table_rows entry) ≡ Some found → IsNextPrefix found.0 (Some next)
      → (number at < number next) × (number next < 2 ^ 38)
  number_onward at found next valid is (valid_next, after, least) =
      let (is_row, from, first) = first_row_from-found at (table_rows entry) found table_in_order is in
      let short = valid.short in
      let short_found = (table_writable found is_row).short in
      let short_next = valid_next.short in
      let fits_next = valid_next.fits in
      let order = number_not_before found.0 at short_found short from in
      let onward = number_before found.0 next short_found short_next after in
      (omega (arith, order, onward), omega (arith, short_next, fits_next))

-- where there is no first row, there are no rows
pub none_from : {X : Type 0} (at : Prefix) (rows : List (Prefix × X)) → first_row_from at rows ≡ None → length (rows_from at rows) ≡ 0
none_from {X} at rows none = by_rows (rows_from at rows) refl none
  where
    by_rows : (rs : List (Prefix × X)) → rows_from at rows ≡ rs → slice_get rs 0 ≡ None → length (rows_from at rows) ≡ 0
    by_rows [] is e = ap length is
    by_rows (r ∷ rs) is e = absurd (none-some r (sym e))
