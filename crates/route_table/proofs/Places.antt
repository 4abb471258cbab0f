-- Rows in the order of their keys: what a place found by a binary search says of a look-up and of a change.
use Rattle.std.proofs.Common.{◌≡◌, ℕ, zero, suc, ◌<◌, ◌≤◌, true, false, cond, not, add-one, List, [], ◌∷◌, length, get_or, set, Some, None, refl, sym, ap, ◌∙◌, inl, inr, arith}
use Rattle.std.specs.{declared.cmp.Ordering.Ordering, declared.cmp.Ordering.TheVariants.Less, declared.cmp.Ordering.TheVariants.Equal, declared.cmp.Ordering.TheVariants.Greater, Cmp.IsTotalOrder, FinMap.find, FinMap.put, FinMap.is_sorted, FinMap.Entries.below_all, FinMap.Entries.by_order, List.Sorted.IsNonDecreasingBy, List.Sorted.IsSortedBy}
use Rattle.std.specs.List.{filter, insert, remove, AllWithin}
use Rattle.std.specs.Ordering.{is_lt, is_eq, eq_by_cmp, ordering_index, ordering_reverse}
use Rattle.std.proofs.{lemmas.Bool.and_parts, lemmas.Bool.and_from, lemmas.Bool.cases_lt, lemmas.Cmp.tied_back, lemmas.List.Sorted.searchable_from_sorted}
use Rattle.ipv4_prefix.proofs.{SortedRows.below_at, PrefixOrder.less_from_test}

module _ {K : Type 0} {R : K → K → Ordering} (o : IsTotalOrder R) where
  turned : (x y : K) (r : Ordering) → R x y ≡ r → R y x ≡ ordering_reverse r
  turned x y r e = o.antisymm y x ∙ ap ordering_reverse e

-- a change at the first row, or past it
module _ {K X : Type 0} (R : K → K → Ordering) (q : K) where
  pub put_before : (v : X) (e : K × X) (es : List (K × X)) → R q e.0 ≡ Less → put R q v (e ∷ es) ≡ (q, v) ∷ e ∷ es
  put_before v e es c = ap (λ r. by_order r ((q, v) ∷ e ∷ es) ((e.0, v) ∷ es) (e ∷ put R q v es)) c

  pub put_here : (v : X) (e : K × X) (es : List (K × X)) → R q e.0 ≡ Equal → put R q v (e ∷ es) ≡ (e.0, v) ∷ es
  put_here v e es c = ap (λ r. by_order r ((q, v) ∷ e ∷ es) ((e.0, v) ∷ es) (e ∷ put R q v es)) c

  pub put_past : (v : X) (e : K × X) (es : List (K × X)) → R q e.0 ≡ Greater → put R q v (e ∷ es) ≡ e ∷ put R q v es
  put_past v e es c = ap (λ r. by_order r ((q, v) ∷ e ∷ es) ((e.0, v) ∷ es) (e ∷ put R q v es)) c

  pub others_here : (e : K × X) (es : List (K × X)) → R q e.0 ≡ Equal → filter (λ e. not (eq_by_cmp R q e.0)) (e ∷ es) ≡ filter (λ e. not (eq_by_cmp R q e.0)) es
  others_here e es c = let others = filter (λ (e : K × X). not (eq_by_cmp R q e.0)) es in ap (λ r. cond (not (is_eq r)) (e ∷ others) others) c

  pub others_past : (e : K × X) (es : List (K × X)) → R q e.0 ≡ Greater → filter (λ e. not (eq_by_cmp R q e.0)) (e ∷ es) ≡ e ∷ filter (λ e. not (eq_by_cmp R q e.0)) es
  others_past e es c = let others = filter (λ (e : K × X). not (eq_by_cmp R q e.0)) es in ap (λ r. cond (not (is_eq r)) (e ∷ others) others) c

module _ {K : Type 0} {R : K → K → Ordering} (o : IsTotalOrder R) where
  pub above_from_below : (x y : K) → is_lt (R x y) ≡ true → R y x ≡ Greater
  above_from_below x y l = turned o x y Less (less_from_test _ l)

module _ {K X : Type 0} {R : K → K → Ordering} (o : IsTotalOrder R) where
  -- ---- what the order of the rows says of two places

  sorted_at : (es : List (K × X)) (i : ℕ) (d : K × X) → is_sorted R es ≡ true → suc i < length es → R (get_or es i d).0 (get_or es (suc i) d).0 ≡ Less
  sorted_at [] i d s h = absurd (omega arith)
  sorted_at (e ∷ es) zero d s h = below_at R e.0 es 0 d (and_parts _ _ s).0 (omega arith)
  sorted_at (e ∷ es) (suc i) d s h = sorted_at es i d (and_parts _ _ s).1 (omega arith)

  -- what a binary search by key asks of the rows
  pub searchable : (es : List (K × X)) (q : K) → is_sorted R es ≡ true → IsNonDecreasingBy (λ e. ordering_index (R e.0 q)) es
  searchable es q s =
      let up : IsSortedBy (λ (a b : K × X). is_lt (R a.0 b.0)) es = λ i d _ h. rw (add-one) (ap is_lt (turned o _ _ Less (sorted_at es i d s (omega arith)))) in
      searchable_from_sorted o (λ (e : K × X). e.0) es q up

  -- ---- no row has the key

  abbrev NoneTies : List (K × X) → K → Type 0
  NoneTies es q = (k : ℕ) (d : K × X) → k < length es → eq_by_cmp R q (get_or es k d).0 ≡ false

  none_of_less : (es : List (K × X)) (q : K) → ((k : ℕ) (d : K × X) → k < length es → R q (get_or es k d).0 ≡ Less) → NoneTies es q
  none_of_less es q above k d h = ap is_eq (above k d h)

  later : (e : K × X) (es : List (K × X)) (q : K) → NoneTies (e ∷ es) q → NoneTies es q
  later e es q none k d h = none (suc k) d (omega arith)

  none_tied : (es : List (K × X)) (q : K) (i : ℕ) → AllWithin (λ e. R e.0 q ≡ Less) es 0 i → AllWithin (λ e. R e.0 q ≡ Greater) es i (length es) → NoneTies es q
  none_tied es q i under over k d h =
      elim (cases_lt k i) [
        | inl l ↦ ap is_eq (turned o _ _ Less (under k d (omega arith) l))
        | inr g ↦ ap is_eq (turned o _ _ Greater (over k d g h))
      ]

  find_none : (es : List (K × X)) (q : K) → NoneTies es q → find R q es ≡ None
  find_none [] q none = refl
  find_none (e ∷ es) q none = ap (λ b. cond b (Some e.1) (find R q es)) (none 0 e (omega arith)) ∙ find_none es q (later e es q none)

  others_all : (es : List (K × X)) (q : K) → NoneTies es q → filter (λ e. not (eq_by_cmp R q e.0)) es ≡ es
  others_all [] q none = refl
  others_all (e ∷ es) q none =
      let kept = filter (λ (e : K × X). not (eq_by_cmp R q e.0)) es in
      ap (λ b. cond (not b) (e ∷ kept) kept) (none 0 e (omega arith)) ∙ ap (λ xs. e ∷ xs) (others_all es q (later e es q none))

  -- ---- a key below each of the rows

  pub below_less : (x y : K) (es : List (K × X)) → R x y ≡ Less → below_all R y es ≡ true → below_all R x es ≡ true
  below_less x y [] l b = refl
  below_less x y (e ∷ es) l b =
      let parts = and_parts _ _ b in
      and_from _ _ (ap is_lt (o.trans x y e.0 l (less_from_test _ parts.0))) (below_less x y es l parts.1)

  pub below_tied : (x y : K) (es : List (K × X)) → R x y ≡ Equal → below_all R y es ≡ true → below_all R x es ≡ true
  below_tied x y [] t b = refl
  below_tied x y (e ∷ es) t b =
      let parts = and_parts _ _ b in
      and_from _ _ (ap is_lt (o.congr x y e.0 t) ∙ parts.0) (below_tied x y es t parts.1)

  pub put_below : (q : K) (v : X) (es : List (K × X)) → below_all R q es ≡ true → put R q v es ≡ (q, v) ∷ es
  put_below q v [] b = refl
  put_below q v (e ∷ es) b = put_before R q v e es (less_from_test _ (and_parts _ _ b).0)

  pub others_below : (q : K) (es : List (K × X)) → below_all R q es ≡ true → filter (λ e. not (eq_by_cmp R q e.0)) es ≡ es
  others_below q es b = others_all es q (none_of_less es q (λ k d h. below_at R q es k d b h))

  -- ---- a place with the key

  before : (e : K × X) (es : List (K × X)) (i : ℕ) (q : K) (d : K × X) → below_all R e.0 es ≡ true → i < length es → R (get_or es i d).0 q ≡ Equal → R q e.0 ≡ Greater
  before e es i q d b h t = sym (o.congr _ q e.0 t) ∙ turned o _ _ Less (below_at R e.0 es i d b h)

  pub put-set : (es : List (K × X)) (i : ℕ) (q : K) (v : X) (d : K × X) → is_sorted R es ≡ true → i < length es → R (get_or es i d).0 q ≡ Equal → put R q v es ≡ set es i ((get_or es i d).0, v)
  put-set [] i q v d s h t = absurd (omega arith)
  put-set (e ∷ es) zero q v d s h t = put_here R q v e es (tied_back o e.0 q t)
  put-set (e ∷ es) (suc i) q v d s h t =
      put_past R q v e es (before e es i q d (and_parts _ _ s).0 (omega arith) t)
      ∙ ap (λ xs. e ∷ xs) (put-set es i q v d (and_parts _ _ s).1 (omega arith) t)

  pub find-at : (es : List (K × X)) (i : ℕ) (q : K) (d : K × X) → is_sorted R es ≡ true → i < length es → R (get_or es i d).0 q ≡ Equal → find R q es ≡ Some (get_or es i d).1
  find-at [] i q d s h t = absurd (omega arith)
  find-at (e ∷ es) zero q d s h t = ap (λ r. cond (is_eq r) (Some e.1) (find R q es)) (tied_back o e.0 q t)
  find-at (e ∷ es) (suc i) q d s h t =
      ap (λ r. cond (is_eq r) (Some e.1) (find R q es)) (before e es i q d (and_parts _ _ s).0 (omega arith) t)
      ∙ find-at es i q d (and_parts _ _ s).1 (omega arith) t

  pub others-remove : (es : List (K × X)) (i : ℕ) (q : K) (d : K × X) → is_sorted R es ≡ true → i < length es → R (get_or es i d).0 q ≡ Equal → filter (λ e. not (eq_by_cmp R q e.0)) es ≡ remove es i
  others-remove [] i q d s h t = absurd (omega arith)
  others-remove (e ∷ es) zero q d s h t =
      others_here R q e es (tied_back o e.0 q t)
      ∙ others_all es q (none_of_less es q (λ k d h. sym (o.congr e.0 q _ t) ∙ below_at R e.0 es k d (and_parts _ _ s).0 h))
  others-remove (e ∷ es) (suc i) q d s h t =
      others_past R q e es (before e es i q d (and_parts _ _ s).0 (omega arith) t)
      ∙ ap (λ xs. e ∷ xs) (others-remove es i q d (and_parts _ _ s).1 (omega arith) t)

  -- ---- a place between the rows below the key and those above

  pub put-insert : (es : List (K × X)) (i : ℕ) (q : K) (v : X) → i ≤ length es → AllWithin (λ e. R e.0 q ≡ Less) es 0 i → AllWithin (λ e. R e.0 q ≡ Greater) es i (length es) → put R q v es ≡ insert es i (q, v)
  put-insert [] zero q v h under over = refl
  put-insert [] (suc i) q v h under over = absurd (omega arith)
  put-insert (e ∷ es) zero q v h under over =
      put_before R q v e es (turned o _ _ Greater (over 0 e (omega arith) (omega arith)))
  put-insert (e ∷ es) (suc i) q v h under over =
      put_past R q v e es (turned o _ _ Less (under 0 e (omega arith) (omega arith)))
      ∙ ap (λ xs. e ∷ xs) (put-insert es i q v (omega arith) (λ k d _ l. under (suc k) d (omega arith) (omega arith)) (λ k d g l. over (suc k) d (omega arith) (omega arith)))

  pub find-between : (es : List (K × X)) (i : ℕ) (q : K) → AllWithin (λ e. R e.0 q ≡ Less) es 0 i → AllWithin (λ e. R e.0 q ≡ Greater) es i (length es) → find R q es ≡ None
  find-between es i q under over = find_none es q (none_tied es q i under over)

  pub others-between : (es : List (K × X)) (i : ℕ) (q : K) → AllWithin (λ e. R e.0 q ≡ Less) es 0 i → AllWithin (λ e. R e.0 q ≡ Greater) es i (length es) → filter (λ e. not (eq_by_cmp R q e.0)) es ≡ es
  others-between es i q under over = others_all es q (none_tied es q i under over)
