-- That the changed rows and the room are kept: when one row is put, when the rows or some of them are published, and when a prefix is forgotten.
use Rattle.std.proofs.Common.{◌≡◌, ℕ, ◌+◌, ◌-◌, ◌<◌, ◌≤◌, Bool, true, false, not, cond, if◌then◌else◌, List, [], length, take, drop, Some, None, refl, sym, ap, ◌∙◌, arith}
use Rattle.std.specs.{FinMap.find, FinMap.put, FinMap.is_sorted, FinMap.Entries.length-put, List.filter}
use Rattle.std.specs.Option.{is_some, option_map, IsNone, IsSome}
use Rattle.std.proofs.{lemmas.List.length-map, lemmas.List.Filters.length-filter_both}
use Rattle.ipv4_prefix.specs.Prefix.{Prefix, prefix_cmp}
use Rattle.network_model.specs.declared.route.Entry.{Entry}
use Rattle.route_table.specs.{declared.row.Row.Row, Place.without}
use Rattle.route_table.specs.Rows.{control_rows, differs, differing_rows, with_change, with_in_force, IsTable}
use Rattle.ipv4_prefix.proofs.{SortedRows.to_T, PrefixOrder.prefix_cmp_total}
use Rattle.network_model.proofs.RowLaws.{find-map}
use Rattle.route_table.proofs.{Changed.differing-put_new, Changed.differing-put_same, Publication.marked, Publication.with_in_force-differing, Publication.differing-marked, Forgotten.differing-without, Forgotten.length-without}
use Rattle.route_table.proofs.PublishedInPart.{marked_first, with_in_force-first, differing-first, length-first}

-- whether a row is there does not depend on what is read of it
pub is_known : (p : Prefix) (rows : List (Prefix × Row)) → is_some (find prefix_cmp p (control_rows rows)) ≡ is_some (find prefix_cmp p rows)
is_known p rows = ap is_some (find-map prefix_cmp (λ (r : Row). r.control) p rows) ∙ elim (find prefix_cmp p rows) as (λ o. is_some (option_map (λ r. r.control) o) ≡ is_some o) [ None ↦ refl | Some r ↦ refl ]

pub length-put_known : (p : Prefix) (row : Row) (rows : List (Prefix × Row)) → is_sorted prefix_cmp rows ≡ true → IsSome (find prefix_cmp p (control_rows rows)) → length (put prefix_cmp p row rows) ≡ length rows
length-put_known p row rows s known = length-put prefix_cmp prefix_cmp_total p row rows (to_T _ s) ∙ ap (λ b. cond b (length rows) (length rows + 1)) (sym (is_known p rows) ∙ known)

pub length-put_at_most : {X : Type 0} (p : Prefix) (row : X) (rows : List (Prefix × X)) → is_sorted prefix_cmp rows ≡ true → length (put prefix_cmp p row rows) ≤ length rows + 1
length-put_at_most p row rows s =
    let is = length-put prefix_cmp prefix_cmp_total p row rows (to_T _ s) in
    elim (is_some (find prefix_cmp p rows)) as (λ b. length (put prefix_cmp p row rows) ≡ cond b (length rows) (length rows + 1) → length (put prefix_cmp p row rows) ≤ length rows + 1) [ true ↦ λ e. omega arith | false ↦ λ e. omega arith ] is

fits : (b : Bool) (new old capacity : ℕ) → new ≡ cond b old (old + 1) → old ≤ capacity → (b ≡ false → 0 < capacity - old) → new ≤ capacity
fits true new old capacity e within room = omega arith
fits false new old capacity e within room = let some = room refl in omega arith

pub length-differing : (rows : List (Prefix × Row)) → length (differing_rows rows) ≤ length rows
length-differing rows =
    let both = length-filter_both (λ (r : Prefix × Row). differs r.1) (λ r. not (differs r.1)) (λ _. refl) rows in
    let chosen : Prefix × Row → Prefix × Entry = λ r. (r.0, (r.1).control) in
    omega (arith, both, length-map (filter (λ (r : Prefix × Row). differs r.1) rows) chosen)

module _ (rows : List (Prefix × Row)) (row_capacity : ℕ) (changed : List (Prefix × Entry)) (changed_capacity : ℕ) (s : is_sorted prefix_cmp rows ≡ true) (kept : IsTable rows row_capacity changed changed_capacity) where
  -- ---- one row is put

  module _ (p : Prefix) (row : Row) (room : IsNone (find prefix_cmp p (control_rows rows)) → 0 < changed_capacity - length rows) where
    put_fits : length (put prefix_cmp p row rows) ≤ changed_capacity
    put_fits = fits (is_some (find prefix_cmp p rows)) _ _ _ (length-put prefix_cmp prefix_cmp_total p row rows (to_T _ s)) kept.can_change (λ e. room (is_known p rows ∙ e))

    pub row_fits : length (put prefix_cmp p row rows) ≤ row_capacity
    row_fits = let here = put_fits in let more = kept.can_be_kept in omega arith

    changed_is : (d : Bool) → differs row ≡ d → (if d then put prefix_cmp p row.control changed else without p changed) ≡ differing_rows (put prefix_cmp p row rows)
    changed_is true d = ap (put prefix_cmp p row.control) kept.differing ∙ sym (differing-put_new p row rows s d)
    changed_is false d = ap (without p) kept.differing ∙ sym (differing-put_same p row rows s d)

    pub change_fits : length (with_change p row changed) ≤ changed_capacity
    change_fits = let here = put_fits in omega (arith, ap length (changed_is (differs row) refl), length-differing (put prefix_cmp p row rows))

    pub kept_put : IsTable (put prefix_cmp p row rows) row_capacity (with_change p row changed) changed_capacity
    kept_put = record { differing = changed_is (differs row) refl; can_change = put_fits; can_be_kept = kept.can_be_kept }

  -- ---- the rows are published

  pub all_in_force : with_in_force changed rows ≡ marked rows
  all_in_force = ap (λ cs. with_in_force cs rows) kept.differing ∙ with_in_force-differing rows s

  pub length-in_force : length (with_in_force changed rows) ≡ length rows
  length-in_force = ap length all_in_force ∙ length-map rows _

  pub in_force_fits : length (with_in_force changed rows) ≤ row_capacity
  in_force_fits = let a = kept.can_change in let b = kept.can_be_kept in omega (arith, length-in_force)

  pub kept_published : IsTable (with_in_force changed rows) row_capacity [] changed_capacity
  kept_published = record { differing = sym (ap differing_rows all_in_force ∙ differing-marked rows); can_change = let a = kept.can_change in omega (arith, length-in_force); can_be_kept = kept.can_be_kept }

  -- ---- some rows are published

  module _ (n : ℕ) where
    pub first_in_force : with_in_force (take n changed) rows ≡ marked_first n rows
    first_in_force = ap (λ cs. with_in_force (take n cs) rows) kept.differing ∙ with_in_force-first n rows s

    pub length-first_in_force : length (with_in_force (take n changed) rows) ≡ length rows
    length-first_in_force = ap length first_in_force ∙ length-first n rows

    pub first_fits : length (with_in_force (take n changed) rows) ≤ row_capacity
    first_fits = let a = kept.can_change in let b = kept.can_be_kept in omega (arith, length-first_in_force)

    pub kept_some_published : IsTable (with_in_force (take n changed) rows) row_capacity (drop n changed) changed_capacity
    kept_some_published = record {
      differing = ap (drop n) kept.differing ∙ sym (ap differing_rows first_in_force ∙ differing-first n rows);
      can_change = let a = kept.can_change in omega (arith, length-first_in_force);
      can_be_kept = kept.can_be_kept;
    }

  -- ---- a prefix is forgotten

  pub kept_without : (p : Prefix) → IsTable (without p rows) row_capacity (without p changed) changed_capacity
  kept_without p = record {
    differing = ap (without p) kept.differing ∙ sym (differing-without p rows);
    can_change = let a = kept.can_change in omega (arith, length-without p rows);
    can_be_kept = kept.can_be_kept;
  }
