-- The published rows: what a look-up finds there, and that a put row leaves them as they are.
use Rattle.std.proofs.Common.{◌≡◌, true, false, cond, List, [], ◌∷◌, Option, Some, None, refl, ap, ◌∙◌}
use Rattle.std.specs.{declared.cmp.Ordering.TheVariants.Less, declared.cmp.Ordering.TheVariants.Equal, declared.cmp.Ordering.TheVariants.Greater, FinMap.find, FinMap.put, FinMap.is_sorted, FinMap.Entries.below_all, FinMap.Entries.by_order, List.cons_option, Option.option_map, Option.option_and_then, Ordering.is_eq}
use Rattle.std.proofs.lemmas.Bool.{and_parts, and_from}
use Rattle.ipv4_prefix.specs.Prefix.{Prefix, prefix_cmp, prefix_eq}
use Rattle.network_model.specs.declared.route.Entry.{Entry}
use Rattle.network_model.proofs.RowLaws.{find_below}
use Rattle.route_table.specs.{declared.row.Row.Row, Rows.published_rows}
use Rattle.ipv4_prefix.proofs.PrefixOrder.{prefix_cmp_total}
use Rattle.route_table.proofs.Places.{below_tied, below_less}

-- the published row of one prefix before those of others
abbrev with_row : Prefix → Option Entry → List (Prefix × Entry) → List (Prefix × Entry)
with_row p o es = cons_option (option_map (λ e. (p, e)) o) es

find_here : (p q : Prefix) (o : Option Entry) (es : List (Prefix × Entry)) → prefix_eq p q ≡ true → find prefix_cmp p es ≡ None → find prefix_cmp p (with_row q o es) ≡ o
find_here p q None es t none = none
find_here p q (Some e) es t none = ap (λ b. cond b (Some e) (find prefix_cmp p es)) t

find_past : (p q : Prefix) (o : Option Entry) (es : List (Prefix × Entry)) → prefix_eq p q ≡ false → find prefix_cmp p (with_row q o es) ≡ find prefix_cmp p es
find_past p q None es t = refl
find_past p q (Some e) es t = ap (λ b. cond b (Some e) (find prefix_cmp p es)) t

tie : (p q : Prefix) → prefix_eq p q ≡ true → prefix_cmp p q ≡ Equal
tie p q t = elim (prefix_cmp p q) as (λ o. is_eq o ≡ true → o ≡ Equal) [ Less ↦ λ e. absurd (cc) | Equal ↦ λ e. refl | Greater ↦ λ e. absurd (cc) ] t

pub find-published : (p : Prefix) (rows : List (Prefix × Row)) → is_sorted prefix_cmp rows ≡ true → find prefix_cmp p (published_rows rows) ≡ option_and_then (λ r. r.published) (find prefix_cmp p rows)
find-published p [] s = refl
find-published p (r ∷ rs) s =
    let parts = and_parts _ _ s in
    let rest = find-published p rs parts.1 in
    elim (prefix_eq p r.0) as (λ t. prefix_eq p r.0 ≡ t → find prefix_cmp p (published_rows (r ∷ rs)) ≡ option_and_then (λ r. r.published) (cond t (Some r.1) (find prefix_cmp p rs))) [
      | true ↦ λ t. find_here p r.0 (r.1).published (published_rows rs) t (rest ∙ ap (option_and_then (λ (r : Row). r.published)) (find_below prefix_cmp p rs (below_tied prefix_cmp_total p r.0 rs (tie p r.0 t) parts.0)))
      | false ↦ λ t. find_past p r.0 (r.1).published (published_rows rs) t ∙ rest
    ] refl

-- a put row that keeps what is in force
pub published-put : (p : Prefix) (row : Row) (rows : List (Prefix × Row)) → is_sorted prefix_cmp rows ≡ true → row.published ≡ option_and_then (λ r. r.published) (find prefix_cmp p rows) → published_rows (put prefix_cmp p row rows) ≡ published_rows rows
published-put p row [] s kept = ap (λ o. with_row p o []) kept
published-put p row (r ∷ rs) s kept =
    let parts = and_parts _ _ s in
    elim (prefix_cmp p r.0) as (λ o. prefix_cmp p r.0 ≡ o → row.published ≡ option_and_then (λ r. r.published) (cond (is_eq o) (Some r.1) (find prefix_cmp p rs)) → published_rows (by_order o ((p, row) ∷ r ∷ rs) ((r.0, row) ∷ rs) (r ∷ put prefix_cmp p row rs)) ≡ published_rows (r ∷ rs)) [
      | Less ↦ λ c k. ap (λ o. with_row p o (published_rows (r ∷ rs))) (k ∙ ap (option_and_then (λ (r : Row). r.published)) (find_below prefix_cmp p rs (below_less prefix_cmp_total p r.0 rs c parts.0)))
      | Equal ↦ λ c k. ap (λ o. with_row r.0 o (published_rows rs)) k
      | Greater ↦ λ c k. ap (with_row r.0 (r.1).published) (published-put p row rs parts.1 k)
    ] refl kept

-- ---- the order of the published rows

pub below-published : (p : Prefix) (rows : List (Prefix × Row)) → below_all prefix_cmp p rows ≡ true → below_all prefix_cmp p (published_rows rows) ≡ true
below-published p [] b = refl
below-published p (r ∷ rs) b =
    let parts = and_parts _ _ b in
    let rest = below-published p rs parts.1 in
    elim ((r.1).published) as (λ o. below_all prefix_cmp p (with_row r.0 o (published_rows rs)) ≡ true) [ None ↦ rest | Some e ↦ and_from _ _ parts.0 rest ]

pub sorted-published : (rows : List (Prefix × Row)) → is_sorted prefix_cmp rows ≡ true → is_sorted prefix_cmp (published_rows rows) ≡ true
sorted-published [] s = refl
sorted-published (r ∷ rs) s =
    let parts = and_parts _ _ s in
    let rest = sorted-published rs parts.1 in
    elim ((r.1).published) as (λ o. is_sorted prefix_cmp (with_row r.0 o (published_rows rs)) ≡ true) [ None ↦ rest | Some e ↦ and_from _ _ (below-published r.0 rs parts.0) rest ]
