-- Rows that are set in order, and taken back.
use Rattle.std.proofs.Common.{ℕ, ◌≡◌, inl, inr, ◌+◌, ◌<◌, Bool, true, false, cond, not, T, List, [], ◌∷◌, ◌++◌, length, take, get_or, Option, Some, None, is_some, arith, refl, sym, ap, subst, ◌∙◌, length-append}
use Rattle.std.specs.FinMap.{put, find as row_of, is_sorted}
use Rattle.std.specs.FinMap.Entries.{is_sorted-put, is_sorted-where_key, find-put, find-where_key, same_entries}
use Rattle.std.proofs.{Math.Seq.get_or-append_seam, lemmas.Bool.cases_eq}
use Rattle.std.proofs.lemmas.List.{get_or_append_left, get_or_default, get_or-take, length-take}
use Rattle.ipv4_prefix.specs.Prefix.{Prefix, prefix_cmp, prefix_eq}
use Rattle.ipv4_prefix.proofs.PrefixOrder.{prefix_cmp_total, prefix_cmp-tied, prefix_eq-Decides}
use Rattle.network_model.specs.{declared.route.Entry.Entry, Publication.with_rows}
use Rattle.array_bitmap.specs.{Removal.without_row, Batch.put_back, Batch.IsNoted}
use Rattle.bitmaps.proofs.RowsSet.{with_one_more, with_all}

-- rows set in order leave a table in order
pub with_rows-sorted : (rows table : List (Prefix × Entry)) → T (is_sorted prefix_cmp table) → T (is_sorted prefix_cmp (with_rows rows table))
with_rows-sorted [] table sorted = sorted
with_rows-sorted (r ∷ rows) table sorted = with_rows-sorted rows (put prefix_cmp r.0 r.1 table) (is_sorted-put prefix_cmp prefix_cmp_total r.0 r.1 table sorted)

-- the row of a prefix where one was taken out
find_without : (q p : Prefix) (rows : List (Prefix × Entry)) → row_of prefix_cmp q (without_row p rows) ≡ cond (prefix_eq q p) None (row_of prefix_cmp q rows)
find_without q p rows =
    find-where_key prefix_cmp (λ x. not (prefix_eq x p)) q (λ x tied. ap (λ y. not (prefix_eq y p)) (sym (prefix_cmp-tied q x tied))) rows ∙ turned (prefix_eq q p) (row_of prefix_cmp q rows)
  where
    turned : (b : Bool) (o : Option Entry) → cond (not b) o None ≡ cond b None o
    turned true o = refl
    turned false o = refl

-- a prefix that was put has a row
pub found_put : (p : Prefix) (e : Entry) (table : List (Prefix × Entry)) → is_some (row_of prefix_cmp p (put prefix_cmp p e table)) ≡ true
found_put p e table = ap is_some (find-put prefix_cmp prefix_cmp_total p p e table ∙ ap (λ b. cond b (Some e) (row_of prefix_cmp p table)) ((prefix_eq-Decides p p).1 refl))

-- a row is put, and then what its prefix had: the table is as it was
pub put_and_back : (p : Prefix) (e : Entry) (table : List (Prefix × Entry)) → T (is_sorted prefix_cmp table) → put_back p (row_of prefix_cmp p table) (put prefix_cmp p e table) ≡ table
put_and_back p e table sorted = by_found (row_of prefix_cmp p table) refl
  where
    put_sorted : T (is_sorted prefix_cmp (put prefix_cmp p e table))
    put_sorted = is_sorted-put prefix_cmp prefix_cmp_total p e table sorted

    by_test : (q : Prefix) (o : Option Entry) → row_of prefix_cmp p table ≡ o → (b : Bool) → prefix_eq q p ≡ b → cond b o (cond b (Some e) (row_of prefix_cmp q table)) ≡ row_of prefix_cmp q table
    by_test q o is true same = sym is ∙ ap (λ x. row_of prefix_cmp x table) (sym ((prefix_eq-Decides q p).0 same))
    by_test q o is false apart = refl

    by_found : (o : Option Entry) → row_of prefix_cmp p table ≡ o → put_back p o (put prefix_cmp p e table) ≡ table
    by_found None is =
        same_entries prefix_cmp prefix_cmp_total prefix_cmp-tied (without_row p (put prefix_cmp p e table)) table
        (is_sorted-where_key prefix_cmp (λ q. not (prefix_eq q p)) (put prefix_cmp p e table) put_sorted) sorted
        (λ q. find_without q p (put prefix_cmp p e table) ∙ ap (cond (prefix_eq q p) None) (find-put prefix_cmp prefix_cmp_total q p e table) ∙ by_test q None is (prefix_eq q p) refl)
    by_found (Some x) is =
        same_entries prefix_cmp prefix_cmp_total prefix_cmp-tied (put prefix_cmp p x (put prefix_cmp p e table)) table
        (is_sorted-put prefix_cmp prefix_cmp_total p x (put prefix_cmp p e table) put_sorted) sorted
        (λ q. find-put prefix_cmp prefix_cmp_total q p x (put prefix_cmp p e table) ∙ ap (cond (prefix_eq q p) (Some x)) (find-put prefix_cmp prefix_cmp_total q p e table) ∙ by_test q (Some x) is (prefix_eq q p) refl)

-- ---- notes

-- none were made, and none are left
pub noted_first : (table rows : List (Prefix × Entry)) (notes : List (Option Entry)) → T (is_sorted prefix_cmp table) → notes ≡ [] → IsNoted table rows notes table
noted_first table rows notes sorted none = subst (λ n. IsNoted table rows n table) (sym none) (record {
  sorted = sorted;
  few = omega arith;
  set = refl;
  before = λ k r l is. absurd (omega (arith, l));
})

-- all rows are set
pub noted_all : (table rows : List (Prefix × Entry)) (notes : List (Option Entry)) (now : List (Prefix × Entry)) → length notes ≡ length rows → IsNoted table rows notes now → now ≡ with_rows rows table
noted_all table rows notes now all n = n.set ∙ ap (λ k. with_rows (take k rows) table) all ∙ with_all rows table

-- the row at an index, whatever stands for none
same_row : (rows : List (Prefix × Entry)) (k : ℕ) (r s : Prefix × Entry) → k < length rows → r ≡ get_or rows k r → s ≡ get_or rows k s → r ≡ s
same_row rows k r s l a b = a ∙ get_or_default rows k r s l ∙ sym b

pub noted_next : (table rows : List (Prefix × Entry)) (notes : List (Option Entry)) (now : List (Prefix × Entry)) (k : ℕ) (r : Prefix × Entry) → k ≡ length notes → k < length rows → r ≡ get_or rows k r
    → IsNoted table rows notes now → IsNoted table rows (notes ++ row_of prefix_cmp r.0 now ∷ []) (put prefix_cmp r.0 r.1 now)
noted_next table rows notes now k r e within is n = record {
  sorted = n.sorted;
  few = omega (arith, more, within, e);
  set = ap (put prefix_cmp r.0 r.1) (n.set ∙ ap (λ j. with_rows (take j rows) table) (sym e)) ∙ sym (with_one_more rows k r table within is) ∙ ap (λ j. with_rows (take j rows) table) (sym (more ∙ ap (λ j. j + 1) (sym e)));
  before = λ j s l at. elim (cases_eq j k) [
    | inl same ↦
        let end : j ≡ length notes = same ∙ e in
        let row : r ≡ s = same_row rows k r s within is (subst (λ i. s ≡ get_or rows i s) same at) in
        ap (λ i. get_or (notes ++ row_of prefix_cmp r.0 now ∷ []) i None) end ∙ get_or-append_seam notes (row_of prefix_cmp r.0 now) [] None
        ∙ ap (λ t. row_of prefix_cmp r.0 t) (n.set ∙ ap (λ i. with_rows (take i rows) table) (sym end))
        ∙ ap (λ (x : Prefix × Entry). row_of prefix_cmp x.0 (with_rows (take j rows) table)) row
    | inr other ↦
        let below : j < length notes = omega (arith, l, more, other, e) in
        get_or_append_left notes (row_of prefix_cmp r.0 now ∷ []) None j below ∙ n.before j s below at
  ];
}
  where
    more : length (notes ++ row_of prefix_cmp r.0 now ∷ []) ≡ length notes + 1
    more = length-append notes (row_of prefix_cmp r.0 now ∷ [])

-- one row back
module _ (table rows : List (Prefix × Entry)) (notes : List (Option Entry)) (now : List (Prefix × Entry)) (k : ℕ) (r : Prefix × Entry) (e : length notes ≡ k + 1) (is : r ≡ get_or rows k r) (n : IsNoted table rows notes now) where
  within : k < length rows
  within = let few = n.few in omega (arith, few, e)

  was_put : now ≡ put prefix_cmp r.0 r.1 (with_rows (take k rows) table)
  was_put = n.set ∙ ap (λ j. with_rows (take j rows) table) e ∙ with_one_more rows k r table within is

  pub noted_there : is_some (row_of prefix_cmp r.0 now) ≡ true
  noted_there = ap (λ t. is_some (row_of prefix_cmp r.0 t)) was_put ∙ found_put r.0 r.1 (with_rows (take k rows) table)

  pub noted_back : (before : Option Entry) (rest : List (Option Entry)) → before ≡ get_or notes k None → rest ≡ take k notes → IsNoted table rows rest (put_back r.0 before now)
  noted_back before rest b t = record {
    sorted = n.sorted;
    few = omega (arith, count, within);
    set = ap (λ o. put_back r.0 o now) (b ∙ n.before k r (omega (arith, e)) is) ∙ ap (put_back r.0 (row_of prefix_cmp r.0 (with_rows (take k rows) table))) was_put
        ∙ put_and_back r.0 r.1 (with_rows (take k rows) table) (with_rows-sorted (take k rows) table n.sorted) ∙ ap (λ j. with_rows (take j rows) table) (sym count);
    before = λ j s l at. ap (λ xs. get_or xs j None) t ∙ get_or-take k notes j None (omega (arith, l, count)) ∙ n.before j s (omega (arith, l, count, e)) at;
  }
    where
      count : length rest ≡ k
      count = ap length t ∙ omega (arith, length-take k notes, e)
