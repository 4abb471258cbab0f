-- To publish some: the first of the changed rows are put again with their control entry in force, and the others stay as they are.
use Rattle.std.proofs.Common.{◌≡◌, ℕ, zero, suc, true, false, cond, not, List, [], ◌∷◌, length, take, drop, Option, Some, None, refl, sym, ap, ◌∙◌}
use Rattle.std.specs.{FinMap.put, FinMap.is_sorted, FinMap.Entries.below_all, List.filter, List.cons_option, Option.option_map}
use Rattle.std.proofs.{lemmas.Bool.and_parts, lemmas.Bool.and_from, lemmas.Cmp.tied_itself, lemmas.List.length-map}
use Rattle.ipv4_prefix.specs.Prefix.{Prefix, prefix_cmp}
use Rattle.ipv4_prefix.proofs.PrefixOrder.{prefix_cmp_total}
use Rattle.network_model.specs.{declared.route.Entry.Entry, Publication.with_rows}
use Rattle.network_model.proofs.{EntryLaws.entry_eq-refl, RowLaws.with_rows-past}
use Rattle.route_table.specs.declared.row.Row.{Row}
use Rattle.route_table.specs.Rows.{control_rows, published_rows, table_of, differs, differing_rows, row_in_force, with_in_force}
use Rattle.route_table.proofs.{Places.put_here, Places.put_below, Changed.below-differing, InForce.below-published, Publication.with_in_force-past}

-- the rows with the first n of those that differ in force
abbrev pub marked_first : ℕ → List (Prefix × Row) → List (Prefix × Row)
marked_first zero rows = rows
marked_first (suc n) [] = []
marked_first (suc n) (r ∷ rs) = cond (differs r.1) ((r.0, row_in_force (r.1).control) ∷ marked_first n rs) (r ∷ marked_first (suc n) rs)

-- a key before all rows is before the first of them
below-take : (p : Prefix) (n : ℕ) (es : List (Prefix × Entry)) → below_all prefix_cmp p es ≡ true → below_all prefix_cmp p (take n es) ≡ true
below-take p (suc n) (e ∷ es) b = let parts = and_parts _ _ b in and_from _ _ parts.0 (below-take p n es parts.1)
below-take p _ _ b = refl

pub with_in_force-first : (n : ℕ) (rows : List (Prefix × Row)) → is_sorted prefix_cmp rows ≡ true → with_in_force (take n (differing_rows rows)) rows ≡ marked_first n rows
with_in_force-first (suc n) (r ∷ rs) s =
    let parts = and_parts _ _ s in
    let below = below-differing r.0 rs parts.0 in
    let row : Prefix × Row = (r.0, row_in_force (r.1).control) in
    let others = filter (λ (r : Prefix × Row). differs r.1) rs in
    elim (differs r.1) as (λ t. with_in_force (take (suc n) (control_rows (cond t (r ∷ others) others))) (r ∷ rs) ≡ cond t (row ∷ marked_first n rs) (r ∷ marked_first (suc n) rs)) [
      | true ↦ ap (with_in_force (take n (differing_rows rs))) (put_here prefix_cmp r.0 row.1 r rs (tied_itself prefix_cmp_total r.0))
          ∙ with_in_force-past row (take n (differing_rows rs)) rs (below-take r.0 n (differing_rows rs) below)
          ∙ ap (λ xs. row ∷ xs) (with_in_force-first n rs parts.1)
      | false ↦ with_in_force-past r (take (suc n) (differing_rows rs)) rs (below-take r.0 (suc n) (differing_rows rs) below)
          ∙ ap (λ xs. r ∷ xs) (with_in_force-first (suc n) rs parts.1)
    ]
with_in_force-first _ _ s = refl

-- ---- what the rows are then

-- the control rows stay
pub control-first : (n : ℕ) (rows : List (Prefix × Row)) → control_rows (marked_first n rows) ≡ control_rows rows
control-first (suc n) (r ∷ rs) =
    let row : Prefix × Row = (r.0, row_in_force (r.1).control) in
    elim (differs r.1) as (λ t. control_rows (cond t (row ∷ marked_first n rs) (r ∷ marked_first (suc n) rs)) ≡ control_rows (r ∷ rs)) [
      | true ↦ ap (λ es. (r.0, (r.1).control) ∷ es) (control-first n rs)
      | false ↦ ap (λ es. (r.0, (r.1).control) ∷ es) (control-first (suc n) rs)
    ]
control-first _ _ = refl

pub length-first : (n : ℕ) (rows : List (Prefix × Row)) → length (marked_first n rows) ≡ length rows
length-first n rows =
    let chosen : Prefix × Row → Prefix × Entry = λ r. (r.0, (r.1).control) in
    sym (length-map (marked_first n rows) chosen) ∙ ap length (control-first n rows) ∙ length-map rows chosen

-- the other changed rows are changed still
pub differing-first : (n : ℕ) (rows : List (Prefix × Row)) → differing_rows (marked_first n rows) ≡ drop n (differing_rows rows)
differing-first (suc n) (r ∷ rs) =
    let row : Prefix × Row = (r.0, row_in_force (r.1).control) in
    let others = filter (λ (r : Prefix × Row). differs r.1) rs in
    let left = filter (λ (r : Prefix × Row). differs r.1) (marked_first n rs) in
    let left_more = filter (λ (r : Prefix × Row). differs r.1) (marked_first (suc n) rs) in
    elim (differs r.1) as (λ t. differs r.1 ≡ t → differing_rows (cond t (row ∷ marked_first n rs) (r ∷ marked_first (suc n) rs)) ≡ drop (suc n) (control_rows (cond t (r ∷ others) others))) [
      | true ↦ λ _. ap (λ b. control_rows (cond (not b) (row ∷ left) left)) (entry_eq-refl (r.1).control) ∙ differing-first n rs
      | false ↦ λ same. ap (λ b. control_rows (cond b (r ∷ left_more) left_more)) same ∙ differing-first (suc n) rs
    ] refl
differing-first _ _ = refl

-- the published row of one prefix before those of others
abbrev with_row : Prefix → Option Entry → List (Prefix × Entry) → List (Prefix × Entry)
with_row p o es = cons_option (option_map (λ e. (p, e)) o) es

-- it is set, whether it was there or not
set_first : (p : Prefix) (e : Entry) (o : Option Entry) (es : List (Prefix × Entry)) → below_all prefix_cmp p es ≡ true → put prefix_cmp p e (with_row p o es) ≡ (p, e) ∷ es
set_first p e None es below = put_below prefix_cmp_total p e es below
set_first p e (Some old) es below = put_here prefix_cmp p e (p, old) es (tied_itself prefix_cmp_total p)

-- rows behind it leave it
rows_past : (p : Prefix) (o : Option Entry) (cs es : List (Prefix × Entry)) → below_all prefix_cmp p cs ≡ true → with_rows cs (with_row p o es) ≡ with_row p o (with_rows cs es)
rows_past p None cs es below = refl
rows_past p (Some e) cs es below = with_rows-past (p, e) cs es below

-- and the published rows have the first of the changed ones set
pub published-first : (n : ℕ) (rows : List (Prefix × Row)) → is_sorted prefix_cmp rows ≡ true → published_rows (marked_first n rows) ≡ with_rows (take n (differing_rows rows)) (published_rows rows)
published-first (suc n) (r ∷ rs) s =
    let parts = and_parts _ _ s in
    let below = below-differing r.0 rs parts.0 in
    let row : Prefix × Row = (r.0, row_in_force (r.1).control) in
    let chosen : Prefix × Entry = (r.0, (r.1).control) in
    let others = filter (λ (r : Prefix × Row). differs r.1) rs in
    let before = published_rows (r ∷ rs) in
    elim (differs r.1) as (λ t. published_rows (cond t (row ∷ marked_first n rs) (r ∷ marked_first (suc n) rs)) ≡ with_rows (take (suc n) (control_rows (cond t (r ∷ others) others))) before) [
      | true ↦ ap (λ xs. chosen ∷ xs) (published-first n rs parts.1)
          ∙ sym (ap (with_rows (take n (differing_rows rs))) (set_first r.0 (r.1).control (r.1).published (published_rows rs) (below-published r.0 rs parts.0))
          ∙ with_rows-past chosen (take n (differing_rows rs)) (published_rows rs) (below-take r.0 n (differing_rows rs) below))
      | false ↦ ap (with_row r.0 (r.1).published) (published-first (suc n) rs parts.1)
          ∙ sym (rows_past r.0 (r.1).published (take (suc n) (differing_rows rs)) (published_rows rs) (below-take r.0 (suc n) (differing_rows rs) below))
    ]
published-first _ _ s = refl

pub table-first : (n : ℕ) (rows : List (Prefix × Row)) → is_sorted prefix_cmp rows ≡ true
    → table_of (marked_first n rows) ≡ record { control = control_rows rows; published = with_rows (take n (differing_rows rows)) (published_rows rows) }
table-first n rows s = λ i. record { control = control-first n rows i; published = published-first n rows s i }
