-- Rows in the order of their keys: a key before all of them, values that are changed, and a row that is put.
use Rattle.std.proofs.Common.{◌++◌, sym, append_assoc, ◌≡◌, true, false, cond, ◌&&◌, List, [], ◌∷◌, map, Some, None, refl, ap, ◌∙◌, append-nil}
use Rattle.std.specs.{declared.cmp.Ordering.Ordering, declared.cmp.Ordering.TheVariants.Less, declared.cmp.Ordering.TheVariants.Equal, declared.cmp.Ordering.TheVariants.Greater, FinMap.find, FinMap.put, FinMap.is_sorted, FinMap.Entries.below_all, FinMap.Entries.by_order, FinMap.Entries.is_sorted-put, Option.option_map}
use Rattle.std.specs.Ordering.{is_eq, is_lt, eq_by_cmp, ordering_reverse}
use Rattle.std.proofs.lemmas.Bool.{and_parts}
use Rattle.ipv4_prefix.specs.Prefix.{Prefix, prefix_cmp}
use Rattle.ipv4_prefix.proofs.{SortedRows.to_T, SortedRows.from_T, PrefixOrder.prefix_cmp_total, PrefixOrder.less_from_test}
use Rattle.network_model.specs.{declared.route.Entry.Entry, World.rows_of, Publication.with_rows}

-- ---- in any order

-- a key before those of all rows has no row
pub find_below : {K X : Type 0} (R : K → K → Ordering) (q : K) (es : List (K × X)) → below_all R q es ≡ true → find R q es ≡ None
find_below R q [] below = refl
find_below R q (e ∷ es) below =
    let parts = and_parts (is_lt (R q e.0)) (below_all R q es) below in
    ap (λ b. cond b (Some e.1) (find R q es)) (ap is_eq (less_from_test (R q e.0) parts.0)) ∙ find_below R q es parts.1

module _ {K X Y : Type 0} (R : K → K → Ordering) (f : X → Y) where
  -- a row that is put is put, changed, among the changed rows
  pub map-put : (k : K) (v : X) (es : List (K × X)) → map (λ e. (e.0, f e.1)) (put R k v es) ≡ put R k (f v) (map (λ e. (e.0, f e.1)) es)
  map-put k v [] = refl
  map-put k v (e ∷ es) =
      let g : K × X → K × Y = λ e. (e.0, f e.1) in
      elim (R k e.0) as (λ r. map g (by_order r ((k, v) ∷ e ∷ es) ((e.0, v) ∷ es) (e ∷ put R k v es)) ≡ by_order r ((k, f v) ∷ g e ∷ map g es) ((e.0, f v) ∷ map g es) (g e ∷ put R k (f v) (map g es))) [
        | Less ↦ refl
        | Equal ↦ refl
        | Greater ↦ ap (λ xs. g e ∷ xs) (map-put k v es)
      ]

  -- the row of a key among changed rows is its row, changed
  pub find-map : (q : K) (es : List (K × X)) → find R q (map (λ e. (e.0, f e.1)) es) ≡ option_map f (find R q es)
  find-map q [] = refl
  find-map q (e ∷ es) =
      elim (eq_by_cmp R q e.0) as (λ b. cond b (Some (f e.1)) (find R q (map (λ e. (e.0, f e.1)) es)) ≡ option_map f (cond b (Some e.1) (find R q es))) [ true ↦ refl | false ↦ find-map q es ]

  -- a change of the values leaves a key before all rows or not
  below-map : (k : K) (es : List (K × X)) → below_all R k (map (λ e. (e.0, f e.1)) es) ≡ below_all R k es
  below-map k [] = refl
  below-map k (e ∷ es) = ap (λ b. is_lt (R k e.0) && b) (below-map k es)

  -- a change of the values leaves the rows sorted or not
  pub sorted-map : (es : List (K × X)) → is_sorted R (map (λ e. (e.0, f e.1)) es) ≡ is_sorted R es
  sorted-map [] = refl
  sorted-map (e ∷ es) = λ i. below-map e.0 es i && sorted-map es i

-- ---- in the order of prefixes

-- rows stay sorted where a row is put
pub sorted-put : {X : Type 0} (rows : List (Prefix × X)) (p : Prefix) (v : X) → is_sorted prefix_cmp rows ≡ true → is_sorted prefix_cmp (put prefix_cmp p v rows) ≡ true
sorted-put rows p v s = from_T _ (is_sorted-put prefix_cmp prefix_cmp_total p v rows (to_T _ s))

-- values at their prefixes are sorted
pub sorted-rows_of : {X : Type 0} (rs : List (Prefix × X)) → is_sorted prefix_cmp (rows_of rs) ≡ true
sorted-rows_of [] = refl
sorted-rows_of (r ∷ rs) = sorted-put (rows_of rs) r.0 r.1 (sorted-rows_of rs)

-- ---- rows set in order

-- a key before all rows is before a later one
below_later : {X : Type 0} (p : Prefix) (xs rows : List (Prefix × X)) (r : Prefix × X) → below_all prefix_cmp p (xs ++ r ∷ rows) ≡ true → prefix_cmp p r.0 ≡ Less
below_later p [] rows r below = less_from_test _ (and_parts _ _ below).0
below_later p (x ∷ xs) rows r below = below_later p xs rows r (and_parts _ _ below).1

-- a row behind all others is put last
pub put_last : {X : Type 0} (xs rows : List (Prefix × X)) (r : Prefix × X) → is_sorted prefix_cmp (xs ++ r ∷ rows) ≡ true → put prefix_cmp r.0 r.1 xs ≡ xs ++ r ∷ []
put_last [] rows r sorted = refl
put_last (x ∷ xs) rows r sorted =
    let parts = and_parts (below_all prefix_cmp x.0 (xs ++ r ∷ rows)) (is_sorted prefix_cmp (xs ++ r ∷ rows)) sorted in
    let behind : prefix_cmp r.0 x.0 ≡ Greater = prefix_cmp_total.antisymm r.0 x.0 ∙ ap ordering_reverse (below_later x.0 xs rows r parts.0) in
    ap (λ o. by_order o ((r.0, r.1) ∷ x ∷ xs) ((x.0, r.1) ∷ xs) (x ∷ put prefix_cmp r.0 r.1 xs)) behind
    ∙ ap (λ ys. x ∷ ys) (put_last xs rows r parts.1)

-- rows behind all others are set behind them
with_rows-behind : (xs rows : List (Prefix × Entry)) → is_sorted prefix_cmp (xs ++ rows) ≡ true → with_rows rows xs ≡ xs ++ rows
with_rows-behind xs [] sorted = sym (append-nil xs)
with_rows-behind xs (r ∷ rows) sorted =
    let joined : (xs ++ r ∷ []) ++ rows ≡ xs ++ r ∷ rows = append_assoc xs (r ∷ []) rows in
    ap (with_rows rows) (put_last xs rows r sorted)
    ∙ with_rows-behind (xs ++ r ∷ []) rows (ap (is_sorted prefix_cmp) joined ∙ sorted)
    ∙ joined

-- rows in order, set where there were none, are these rows
pub with_rows-sorted : (rows : List (Prefix × Entry)) → is_sorted prefix_cmp rows ≡ true → with_rows rows [] ≡ rows
with_rows-sorted rows sorted = with_rows-behind [] rows sorted

-- the last of the rows is put last
pub with_rows-push : (xs : List (Prefix × Entry)) (r : Prefix × Entry) (table : List (Prefix × Entry)) → with_rows (xs ++ r ∷ []) table ≡ put prefix_cmp r.0 r.1 (with_rows xs table)
with_rows-push [] r table = refl
with_rows-push (x ∷ xs) r table = with_rows-push xs r (put prefix_cmp x.0 x.1 table)

-- rows behind the first leave it
pub with_rows-past : (r : Prefix × Entry) (rows table : List (Prefix × Entry)) → below_all prefix_cmp r.0 rows ≡ true → with_rows rows (r ∷ table) ≡ r ∷ with_rows rows table
with_rows-past r [] table below = refl
with_rows-past r (s ∷ rows) table below =
    let parts = and_parts _ _ below in
    let behind : prefix_cmp s.0 r.0 ≡ Greater = prefix_cmp_total.antisymm s.0 r.0 ∙ ap ordering_reverse (less_from_test _ parts.0) in
    ap (λ o. with_rows rows (by_order o ((s.0, s.1) ∷ r ∷ table) ((r.0, s.1) ∷ table) (r ∷ put prefix_cmp s.0 s.1 table))) behind
    ∙ with_rows-past r rows (put prefix_cmp s.0 s.1 table) parts.1
