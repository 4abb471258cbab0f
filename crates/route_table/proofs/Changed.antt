-- The changed rows: that the definition's are those that differ, and what a put row makes of them.
use Rattle.std.proofs.Common.{◌≡◌, ℕ, suc, ◌<◌, Bool, true, false, cond, not, List, [], ◌∷◌, map, length, get_or, refl, sym, ap, ◌∙◌, arith}
use Rattle.std.specs.{declared.cmp.Ordering.TheVariants.Less, declared.cmp.Ordering.TheVariants.Equal, declared.cmp.Ordering.TheVariants.Greater, FinMap.put, FinMap.is_sorted, FinMap.Entries.below_all, FinMap.Entries.by_order, List.filter, Option.option_map_or, Option.option_and_then, Ordering.is_lt}
use Rattle.std.proofs.{lemmas.Bool.and_parts, lemmas.Bool.and_from, lemmas.Cmp.tied_itself}
use Rattle.ipv4_prefix.specs.Prefix.{Prefix, prefix_cmp}
use Rattle.network_model.specs.{declared.route.Entry.Entry, Step.entry_eq, Step.has_row, Step.changed_rows}
use Rattle.route_table.specs.{declared.row.Row.Row, Place.without}
use Rattle.route_table.specs.Rows.{control_rows, published_rows, table_of, differs, differing_rows}
use Rattle.ipv4_prefix.proofs.PrefixOrder.{prefix_cmp_total, prefix_cmp-tied}
use Rattle.route_table.proofs.Places.{below_tied, below_less, find-at, put_here, put_past, put_below, others_here, others_past, others_below}
use Rattle.route_table.proofs.InForce.{find-published}

-- ---- the definition's changed rows

filter-map : {X Y : Type 0} (test : Y → Bool) (g : X → Y) (is : X → Bool) (xs : List X) → ((i : ℕ) (d : X) → i < length xs → test (g (get_or xs i d)) ≡ is (get_or xs i d)) → filter test (map g xs) ≡ map g (filter is xs)
filter-map test g is [] same = refl
filter-map test g is (x ∷ xs) same =
    let rest = filter-map test g is xs (λ i d h. same (suc i) d (omega arith)) in
    ap (λ b. cond b (g x ∷ filter test (map g xs)) (filter test (map g xs))) (same 0 x (omega arith))
    ∙ elim (is x) as (λ b. cond b (g x ∷ filter test (map g xs)) (filter test (map g xs)) ≡ map g (cond b (x ∷ filter is xs) (filter is xs))) [ true ↦ ap (λ ys. g x ∷ ys) rest | false ↦ rest ]

pub changed_rows-table_of : (rows : List (Prefix × Row)) → is_sorted prefix_cmp rows ≡ true → changed_rows (table_of rows) ≡ differing_rows rows
changed_rows-table_of rows s =
    filter-map (λ r. not (has_row (published_rows rows) r)) (λ (r : Prefix × Row). (r.0, (r.1).control)) (λ r. differs r.1) rows (λ i d h.
    let r = get_or rows i d in
    let there = find-at prefix_cmp_total rows i r.0 d s h (tied_itself prefix_cmp_total r.0) in
    ap (λ o. not (option_map_or (λ e. entry_eq e (r.1).control) o false)) (find-published r.0 rows s ∙ ap (option_and_then (λ (r : Row). r.published)) there))

-- ---- a put row

pub below-differing : (p : Prefix) (rows : List (Prefix × Row)) → below_all prefix_cmp p rows ≡ true → below_all prefix_cmp p (differing_rows rows) ≡ true
below-differing p [] b = refl
below-differing p (r ∷ rs) b =
    let parts = and_parts _ _ b in
    let rest = below-differing p rs parts.1 in
    elim (differs r.1) as (λ t. below_all prefix_cmp p (control_rows (cond t (r ∷ filter (λ r. differs r.1) rs) (filter (λ r. differs r.1) rs))) ≡ true) [ true ↦ and_from _ _ parts.0 rest | false ↦ rest ]

module _ (p : Prefix) (row : Row) where
  -- the rows that differ, of these with one before them
  abbrev with_first : Bool → Prefix × Row → List (Prefix × Row) → List (Prefix × Entry)
  with_first t r rs = control_rows (cond t (r ∷ filter (λ r. differs r.1) rs) (filter (λ r. differs r.1) rs))

  pub differing-put_new : (rows : List (Prefix × Row)) → is_sorted prefix_cmp rows ≡ true → differs row ≡ true → differing_rows (put prefix_cmp p row rows) ≡ put prefix_cmp p row.control (differing_rows rows)
  differing-put_new [] s d = ap (λ t. with_first t (p, row) []) d
  differing-put_new (r ∷ rs) s d =
      let parts = and_parts _ _ s in
      let below = below-differing r.0 rs parts.0 in
      elim (prefix_cmp p r.0) as (λ o. prefix_cmp p r.0 ≡ o → differing_rows (by_order o ((p, row) ∷ r ∷ rs) ((r.0, row) ∷ rs) (r ∷ put prefix_cmp p row rs)) ≡ put prefix_cmp p row.control (differing_rows (r ∷ rs))) [
        | Less ↦ λ c. ap (λ t. with_first t (p, row) (r ∷ rs)) d ∙ sym (put_below prefix_cmp_total p row.control (differing_rows (r ∷ rs)) (below-differing p (r ∷ rs) (and_from _ _ (ap is_lt c) (below_less prefix_cmp_total p r.0 rs c parts.0))))
        | Equal ↦ λ c. ap (λ t. with_first t (r.0, row) rs) d
            ∙ elim (differs r.1) as (λ t. (r.0, row.control) ∷ differing_rows rs ≡ put prefix_cmp p row.control (with_first t r rs)) [
              | true ↦ sym (put_here prefix_cmp p row.control (r.0, (r.1).control) (differing_rows rs) c)
              | false ↦ ap (λ k. (k, row.control) ∷ differing_rows rs) (sym (prefix_cmp-tied p r.0 c)) ∙ sym (put_below prefix_cmp_total p row.control (differing_rows rs) (below_tied prefix_cmp_total p r.0 _ c below))
            ]
        | Greater ↦ λ c.
            elim (differs r.1) as (λ t. with_first t r (put prefix_cmp p row rs) ≡ put prefix_cmp p row.control (with_first t r rs)) [
              | true ↦ ap (λ es. (r.0, (r.1).control) ∷ es) (differing-put_new rs parts.1 d) ∙ sym (put_past prefix_cmp p row.control (r.0, (r.1).control) (differing_rows rs) c)
              | false ↦ differing-put_new rs parts.1 d
            ]
      ] refl

  pub differing-put_same : (rows : List (Prefix × Row)) → is_sorted prefix_cmp rows ≡ true → differs row ≡ false → differing_rows (put prefix_cmp p row rows) ≡ without p (differing_rows rows)
  differing-put_same [] s d = ap (λ t. with_first t (p, row) []) d
  differing-put_same (r ∷ rs) s d =
      let parts = and_parts _ _ s in
      let below = below-differing r.0 rs parts.0 in
      elim (prefix_cmp p r.0) as (λ o. prefix_cmp p r.0 ≡ o → differing_rows (by_order o ((p, row) ∷ r ∷ rs) ((r.0, row) ∷ rs) (r ∷ put prefix_cmp p row rs)) ≡ without p (differing_rows (r ∷ rs))) [
        | Less ↦ λ c. ap (λ t. with_first t (p, row) (r ∷ rs)) d ∙ sym (others_below prefix_cmp_total p (differing_rows (r ∷ rs)) (below-differing p (r ∷ rs) (and_from _ _ (ap is_lt c) (below_less prefix_cmp_total p r.0 rs c parts.0))))
        | Equal ↦ λ c. ap (λ t. with_first t (r.0, row) rs) d ∙ sym (others_below prefix_cmp_total p (differing_rows rs) (below_tied prefix_cmp_total p r.0 _ c below))
            ∙ elim (differs r.1) as (λ t. without p (differing_rows rs) ≡ without p (with_first t r rs)) [
              | true ↦ sym (others_here prefix_cmp p (r.0, (r.1).control) (differing_rows rs) c)
              | false ↦ refl
            ]
        | Greater ↦ λ c.
            elim (differs r.1) as (λ t. with_first t r (put prefix_cmp p row rs) ≡ without p (with_first t r rs)) [
              | true ↦ ap (λ es. (r.0, (r.1).control) ∷ es) (differing-put_same rs parts.1 d) ∙ sym (others_past prefix_cmp p (r.0, (r.1).control) (differing_rows rs) c)
              | false ↦ differing-put_same rs parts.1 d
            ]
      ] refl
