-- To publish: each changed row is put again with its control entry in force, and then every row has its control entry in force.
use Rattle.std.proofs.Common.{◌≡◌, ℕ, ◌+◌, ◌<◌, ◌≤◌, true, false, cond, not, List, [], ◌∷◌, map, length, get_or, drop, Option, Some, None, refl, sym, ap, ◌∙◌, arith}
use Rattle.std.specs.{declared.cmp.Ordering.TheVariants.Less, declared.cmp.Ordering.TheVariants.Equal, declared.cmp.Ordering.TheVariants.Greater, FinMap.put, FinMap.is_sorted, FinMap.Entries.below_all, FinMap.Entries.by_order, List.filter, Option.option_map_or}
use Rattle.std.proofs.{lemmas.Bool.and_parts, lemmas.Cmp.tied_itself, lemmas.List.drop_more}
use Rattle.ipv4_prefix.specs.Prefix.{Prefix, prefix_cmp}
use Rattle.network_model.specs.{declared.route.Entry.Entry, Step.entry_eq}
use Rattle.network_model.proofs.EntryLaws.{entry_eq-refl, entry_from_eq}
use Rattle.route_table.specs.declared.row.Row.{Row}
use Rattle.route_table.specs.Rows.{control_rows, published_rows, table_of, differs, differing_rows, row_in_force, with_in_force}
use Rattle.ipv4_prefix.proofs.PrefixOrder.{prefix_cmp_total}
use Rattle.route_table.proofs.{Places.put_here, Places.put_past, Places.above_from_below, Changed.below-differing}

-- the rows with each control entry in force
abbrev pub marked : List (Prefix × Row) → List (Prefix × Row)
marked rows = map (λ r. (r.0, row_in_force (r.1).control)) rows

-- a row that does not differ is published already
same_in_force : (c : Entry) (p : Option Entry) → not (option_map_or (λ e. entry_eq e c) p false) ≡ false → p ≡ Some c
same_in_force c None h = absurd (cc)
same_in_force c (Some e) h = ap (λ x. Some x) (entry_from_eq e c (elim (entry_eq e c) as (λ b. not b ≡ false → b ≡ true) [ true ↦ λ _. refl | false ↦ λ k. absurd (cc) ] h))

row_published : (r : Row) → differs r ≡ false → r ≡ row_in_force r.control
row_published r h = λ i. record { control = r.control; published = same_in_force r.control r.published h i }

pub with_in_force-past : (r : Prefix × Row) (cs : List (Prefix × Entry)) (rs : List (Prefix × Row)) → below_all prefix_cmp r.0 cs ≡ true → with_in_force cs (r ∷ rs) ≡ r ∷ with_in_force cs rs
with_in_force-past r [] rs b = refl
with_in_force-past r (c ∷ cs) rs b =
    let parts = and_parts _ _ b in
    ap (with_in_force cs) (put_past prefix_cmp c.0 (row_in_force c.1) r rs (above_from_below prefix_cmp_total r.0 c.0 parts.0))
    ∙ with_in_force-past r cs (put prefix_cmp c.0 (row_in_force c.1) rs) parts.1

pub with_in_force-differing : (rows : List (Prefix × Row)) → is_sorted prefix_cmp rows ≡ true → with_in_force (differing_rows rows) rows ≡ marked rows
with_in_force-differing [] s = refl
with_in_force-differing (r ∷ rs) s =
    let parts = and_parts _ _ s in
    let below = below-differing r.0 rs parts.0 in
    let row : Prefix × Row = (r.0, row_in_force (r.1).control) in
    let rest = with_in_force-differing rs parts.1 in
    elim (differs r.1) as (λ t. differs r.1 ≡ t → with_in_force (control_rows (cond t (r ∷ filter (λ r. differs r.1) rs) (filter (λ r. differs r.1) rs))) (r ∷ rs) ≡ marked (r ∷ rs)) [
      | true ↦ λ _. ap (with_in_force (differing_rows rs)) (put_here prefix_cmp r.0 row.1 r rs (tied_itself prefix_cmp_total r.0)) ∙ with_in_force-past row (differing_rows rs) rs below ∙ ap (λ xs. row ∷ xs) rest
      | false ↦ λ t. with_in_force-past r (differing_rows rs) rs below ∙ λ i. (r.0, row_published r.1 t i) ∷ rest i
    ] refl

-- ---- what the marked rows are

control-marked : (rows : List (Prefix × Row)) → control_rows (marked rows) ≡ control_rows rows
control-marked [] = refl
control-marked (r ∷ rs) = ap (λ es. (r.0, (r.1).control) ∷ es) (control-marked rs)

published-marked : (rows : List (Prefix × Row)) → published_rows (marked rows) ≡ control_rows rows
published-marked [] = refl
published-marked (r ∷ rs) = ap (λ es. (r.0, (r.1).control) ∷ es) (published-marked rs)

pub table-marked : (rows : List (Prefix × Row)) → table_of (marked rows) ≡ record { control = control_rows rows; published = control_rows rows }
table-marked rows = λ i. record { control = control-marked rows i; published = published-marked rows i }

pub differing-marked : (rows : List (Prefix × Row)) → differing_rows (marked rows) ≡ []
differing-marked [] = refl
differing-marked (r ∷ rs) =
    let rest = filter (λ (r : Prefix × Row). differs r.1) (marked rs) in
    ap (λ b. control_rows (cond (not b) ((r.0, row_in_force (r.1).control) ∷ rest) rest)) (entry_eq-refl (r.1).control) ∙ differing-marked rs

-- ---- the room for the puts

put_grows : {X : Type 0} (p : Prefix) (x : X) (rows : List (Prefix × X)) → length rows ≤ length (put prefix_cmp p x rows)
put_grows p x [] = omega arith
put_grows p x (r ∷ rs) =
    elim (prefix_cmp p r.0) as (λ o. length (r ∷ rs) ≤ length (by_order o ((p, x) ∷ r ∷ rs) ((r.0, x) ∷ rs) (r ∷ put prefix_cmp p x rs))) [
      | Less ↦ omega arith
      | Equal ↦ omega arith
      | Greater ↦ omega (arith, put_grows p x rs)
    ]

pub with_in_force_grows : (cs : List (Prefix × Entry)) (rows : List (Prefix × Row)) → length rows ≤ length (with_in_force cs rows)
with_in_force_grows [] rows = omega arith
with_in_force_grows (c ∷ cs) rows = omega (arith, with_in_force_grows cs (put prefix_cmp c.0 (row_in_force c.1) rows), put_grows c.0 (row_in_force c.1) rows)

-- before one more put, there is room for it where there is room for all
pub room_for_next : (cs : List (Prefix × Entry)) (i : ℕ) (c : Prefix × Entry) (rows all : List (Prefix × Row)) → i < length cs → c ≡ get_or cs i c → with_in_force (drop i cs) rows ≡ all → length (put prefix_cmp c.0 (row_in_force c.1) rows) ≤ length all
room_for_next cs i c rows all within read so_far =
    let next = put prefix_cmp c.0 (row_in_force c.1) rows in
    let one_more : with_in_force (drop (i + 1) cs) next ≡ all = ap (λ x. with_in_force (x ∷ drop (i + 1) cs) rows) read ∙ ap (λ xs. with_in_force xs rows) (sym (drop_more cs i c within)) ∙ so_far in
    omega (arith, with_in_force_grows (drop (i + 1) cs) next, ap length one_more)
