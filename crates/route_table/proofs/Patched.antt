-- The changed rows are a patch: set over the published rows, they make them the control rows.
use Rattle.std.proofs.Common.{◌≡◌, Bool, true, false, cond, not, List, [], ◌∷◌, Option, Some, None, ℕ, refl, ap, subst, ◌∙◌}
use Rattle.std.specs.{FinMap.put, FinMap.is_sorted, FinMap.Entries.below_all, List.filter, List.cons_option, Option.option_map, Option.option_map_or}
use Rattle.std.proofs.{lemmas.Bool.and_parts, lemmas.Cmp.tied_itself}
use Rattle.ipv4_prefix.specs.Prefix.{Prefix, prefix_cmp}
use Rattle.ipv4_prefix.proofs.PrefixOrder.{prefix_cmp_total}
use Rattle.network_model.specs.{declared.route.Entry.Entry, Step.entry_eq, Step.changed_rows, Publication.with_rows}
use Rattle.network_model.proofs.{EntryLaws.entry_from_eq, RowLaws.with_rows-past}
use Rattle.route_table.specs.declared.row.Row.{Row}
use Rattle.route_table.specs.Rows.{TableAndRoom, control_rows, published_rows, table_of, differs, differing_rows}
use Rattle.route_table.proofs.{Places.put_below, Places.put_here, Changed.below-differing, Changed.changed_rows-table_of, InForce.below-published}

-- the changed rows, set over the published ones, make the control rows
patched : (rows : List (Prefix × Row)) → is_sorted prefix_cmp rows ≡ true → with_rows (differing_rows rows) (published_rows rows) ≡ control_rows rows
patched [] sorted = refl
patched (r ∷ rows) sorted =
    let parts = and_parts _ _ sorted in
    by_row (r.1).published (option_map_or (λ e. entry_eq e (r.1).control) (r.1).published false) refl (below-differing r.0 rows parts.0) (below-published r.0 rows parts.0) (patched rows parts.1)
  where
    -- the first row as it was chosen
    chosen : Prefix × Entry
    chosen = (r.0, (r.1).control)

    -- the other rows that differ
    others : List (Prefix × Row)
    others = filter (λ x. differs x.1) rows

    -- where it is put before the published rows, or over its own, it comes first
    is_set : (table : List (Prefix × Entry)) → put prefix_cmp r.0 (r.1).control table ≡ chosen ∷ published_rows rows → below_all prefix_cmp r.0 (differing_rows rows) ≡ true
        → with_rows (differing_rows rows) (published_rows rows) ≡ control_rows rows → with_rows (chosen ∷ differing_rows rows) table ≡ chosen ∷ control_rows rows
    is_set table put_is below rest =
        ap (with_rows (differing_rows rows)) put_is ∙ with_rows-past chosen (differing_rows rows) (published_rows rows) below ∙ ap (λ xs. chosen ∷ xs) rest

    by_row : (o : Option Entry) (same : Bool) → option_map_or (λ e. entry_eq e (r.1).control) o false ≡ same → below_all prefix_cmp r.0 (differing_rows rows) ≡ true
        → below_all prefix_cmp r.0 (published_rows rows) ≡ true → with_rows (differing_rows rows) (published_rows rows) ≡ control_rows rows
        → with_rows (control_rows (cond (not same) (r ∷ others) others)) (cons_option (option_map (λ e. (r.0, e)) o) (published_rows rows)) ≡ chosen ∷ control_rows rows
    by_row None true is below below_published rest = absurd (cc)
    by_row None false is below below_published rest = is_set (published_rows rows) (put_below prefix_cmp_total r.0 (r.1).control (published_rows rows) below_published) below rest
    by_row (Some e) true is below below_published rest =
        with_rows-past (r.0, e) (differing_rows rows) (published_rows rows) below
        ∙ ap (λ xs. (r.0, e) ∷ xs) rest
        ∙ ap (λ (x : Entry). (r.0, x) ∷ control_rows rows) (entry_from_eq e (r.1).control is)
    by_row (Some e) false is below below_published rest =
        is_set ((r.0, e) ∷ published_rows rows) (put_here prefix_cmp r.0 (r.1).control (r.0, e) (published_rows rows) (tied_itself prefix_cmp_total r.0)) below rest

pub patched_at : (t : TableAndRoom) (rows : List (Prefix × Row)) (room : ℕ) → ◌≡◌ {A = TableAndRoom} (record { table = table_of rows; room = room }) t → is_sorted prefix_cmp rows ≡ true
    → with_rows (changed_rows (t.table)) (t.table).published ≡ (t.table).control
patched_at t rows room is sorted =
    subst (λ (x : TableAndRoom). with_rows (changed_rows (x.table)) (x.table).published ≡ (x.table).control) is
    (ap (λ xs. with_rows xs (published_rows rows)) (changed_rows-table_of rows sorted) ∙ patched rows sorted)
