-- Rows that are set, and later set again.
use Rattle.std.proofs.Common.{◌≡◌, ◌∙◌, ◌||◌, Bool, true, false, List, [], ◌∷◌, map, refl, ap, sym}
use Rattle.std.specs.{declared.cmp.Ordering.Ordering, declared.cmp.Ordering.TheVariants.Less, declared.cmp.Ordering.TheVariants.Equal, declared.cmp.Ordering.TheVariants.Greater, Cmp.IsTotalOrder, FinMap.put, FinMap.Entries.by_order, List.list_any, Ordering.ordering_reverse}
use Rattle.std.proofs.{lemmas.Cmp.tied_itself, Math.Bool.or-true}
use Rattle.ipv4_prefix.specs.Prefix.{Prefix, prefix_cmp, prefix_eq}
use Rattle.ipv4_prefix.proofs.PrefixOrder.{prefix_cmp_total, prefix_cmp-tied, prefix_eq-Decides}
use Rattle.network_model.specs.{declared.route.Entry.Entry, Publication.with_rows}

module _ {K X : Type 0} (R : K → K → Ordering) (total : IsTotalOrder R) where
  -- what `put` does, by the order of its key and the first
  before : (k : K) (v : X) (e : K × X) (es : List (K × X)) → R k e.0 ≡ Less → put R k v (e ∷ es) ≡ (k, v) ∷ e ∷ es
  before k v e es o = ap (λ r. by_order r ((k, v) ∷ e ∷ es) ((e.0, v) ∷ es) (e ∷ put R k v es)) o

  there : (k : K) (v : X) (e : K × X) (es : List (K × X)) → R k e.0 ≡ Equal → put R k v (e ∷ es) ≡ (e.0, v) ∷ es
  there k v e es o = ap (λ r. by_order r ((k, v) ∷ e ∷ es) ((e.0, v) ∷ es) (e ∷ put R k v es)) o

  behind : (k : K) (v : X) (e : K × X) (es : List (K × X)) → R k e.0 ≡ Greater → put R k v (e ∷ es) ≡ e ∷ put R k v es
  behind k v e es o = ap (λ r. by_order r ((k, v) ∷ e ∷ es) ((e.0, v) ∷ es) (e ∷ put R k v es)) o

  -- a row that is set twice is the one set last
  again_at : (k : K) (v w : X) (e : K × X) (es : List (K × X)) (o : Ordering) → R k e.0 ≡ o → put R k v (put R k w es) ≡ put R k v es → put R k v (put R k w (e ∷ es)) ≡ put R k v (e ∷ es)
  again_at k v w e es Less o ih = ap (put R k v) (before k w e es o) ∙ there k v (k, w) (e ∷ es) (tied_itself total k) ∙ sym (before k v e es o)
  again_at k v w e es Equal o ih = ap (put R k v) (there k w e es o) ∙ there k v (e.0, w) es o ∙ sym (there k v e es o)
  again_at k v w e es Greater o ih = ap (put R k v) (behind k w e es o) ∙ behind k v e (put R k w es) o ∙ ap (λ l. e ∷ l) ih ∙ sym (behind k v e es o)

  pub put_again : (k : K) (v w : X) (es : List (K × X)) → put R k v (put R k w es) ≡ put R k v es
  put_again k v w [] = there k v (k, w) [] (tied_itself total k)
  put_again k v w (e ∷ es) = again_at k v w e es (R k e.0) refl (put_again k v w es)

  -- rows of two keys are set in either order
  both_at : (j k : K) (a b : X) (e : K × X) (es : List (K × X)) → R j k ≡ Less → R k j ≡ Greater → (o u : Ordering) → R k e.0 ≡ o → R j e.0 ≡ u
      → put R j a (put R k b es) ≡ put R k b (put R j a es) → put R j a (put R k b (e ∷ es)) ≡ put R k b (put R j a (e ∷ es))
  both_at j k a b e es jk kj Less u ke je ih =
      let first = total.trans j k e.0 jk ke in
      ap (put R j a) (before k b e es ke) ∙ before j a (k, b) (e ∷ es) jk
      ∙ sym (ap (put R k b) (before j a e es first) ∙ behind k b (j, a) (e ∷ es) kj ∙ ap (λ l. (j, a) ∷ l) (before k b e es ke))
  both_at j k a b e es jk kj Equal u ke je ih =
      let same : R e.0 j ≡ R k j = sym (total.congr k e.0 j ke) in
      let first : R j e.0 ≡ Less = total.antisymm j e.0 ∙ ap ordering_reverse (same ∙ kj) in
      ap (put R j a) (there k b e es ke) ∙ before j a (e.0, b) es first
      ∙ sym (ap (put R k b) (before j a e es first) ∙ behind k b (j, a) (e ∷ es) kj ∙ ap (λ l. (j, a) ∷ l) (there k b e es ke))
  both_at j k a b e es jk kj Greater Less ke je ih =
      ap (put R j a) (behind k b e es ke) ∙ before j a e (put R k b es) je
      ∙ sym (ap (put R k b) (before j a e es je) ∙ behind k b (j, a) (e ∷ es) kj ∙ ap (λ l. (j, a) ∷ l) (behind k b e es ke))
  both_at j k a b e es jk kj Greater Equal ke je ih =
      ap (put R j a) (behind k b e es ke) ∙ there j a e (put R k b es) je
      ∙ sym (ap (put R k b) (there j a e es je) ∙ behind k b (e.0, a) es ke)
  both_at j k a b e es jk kj Greater Greater ke je ih =
      ap (put R j a) (behind k b e es ke) ∙ behind j a e (put R k b es) je ∙ ap (λ l. e ∷ l) ih
      ∙ sym (ap (put R k b) (behind j a e es je) ∙ behind k b e (put R j a es) ke)

  both : (j k : K) (a b : X) (es : List (K × X)) → R j k ≡ Less → R k j ≡ Greater → put R j a (put R k b es) ≡ put R k b (put R j a es)
  both j k a b [] jk kj = before j a (k, b) [] jk ∙ sym (behind k b (j, a) [] kj)
  both j k a b (e ∷ es) jk kj = both_at j k a b e es jk kj (R k e.0) (R j e.0) refl refl (both j k a b es jk kj)

  in_order : (j k : K) (a b : X) (es : List (K × X)) (o : Ordering) → R j k ≡ o → (R j k ≡ Equal → ⊥) → put R j a (put R k b es) ≡ put R k b (put R j a es)
  in_order j k a b es Less o apart = both j k a b es o (total.antisymm k j ∙ ap ordering_reverse o)
  in_order j k a b es Equal o apart = absurd (apart o)
  in_order j k a b es Greater o apart = sym (both k j b a es (total.antisymm k j ∙ ap ordering_reverse o) o)

  pub put_both : (j k : K) (a b : X) (es : List (K × X)) → (R j k ≡ Equal → ⊥) → put R j a (put R k b es) ≡ put R k b (put R j a es)
  put_both j k a b es apart = in_order j k a b es (R j k) refl apart

-- whether one of the rows is for the prefix
abbrev pub has_row : List (Prefix × Entry) → Prefix → Bool
has_row rows q = list_any (λ p. prefix_eq p q) (map (λ (r : Prefix × Entry). r.0) rows)

again_by : (q : Prefix) (v : Entry) (r : Prefix × Entry) (rs table : List (Prefix × Entry)) (b : Bool) → prefix_eq r.0 q ≡ b → (b || has_row rs q) ≡ true
    → ((t : List (Prefix × Entry)) → has_row rs q ≡ true → with_rows rs (put prefix_cmp q v t) ≡ with_rows rs t)
    → with_rows rs (put prefix_cmp r.0 r.1 (put prefix_cmp q v table)) ≡ with_rows rs (put prefix_cmp r.0 r.1 table)
again_by q v r rs table true is named ih =
    let same : r.0 ≡ q = (prefix_eq-Decides r.0 q).0 is in
    ap (with_rows rs) (ap (λ p. put prefix_cmp r.0 r.1 (put prefix_cmp p v table)) (sym same) ∙ put_again prefix_cmp prefix_cmp_total r.0 r.1 v table)
again_by q v r rs table false is named ih =
    let apart : prefix_cmp r.0 q ≡ Equal → ⊥ = λ tied. let yes : prefix_eq r.0 q ≡ true = (prefix_eq-Decides r.0 q).1 (prefix_cmp-tied r.0 q tied) in absurd cc in
    ap (with_rows rs) (put_both prefix_cmp prefix_cmp_total r.0 q r.1 v table apart) ∙ ih (put prefix_cmp r.0 r.1 table) named

-- a row of a prefix that is set again is lost
set_again : (q : Prefix) (v : Entry) (rs table : List (Prefix × Entry)) → has_row rs q ≡ true → with_rows rs (put prefix_cmp q v table) ≡ with_rows rs table
set_again q v [] table named = absurd cc
set_again q v (r ∷ rs) table named = again_by q v r rs table (prefix_eq r.0 q) refl named (λ t. set_again q v rs t)

-- rows whose prefixes are all set again are lost
pub rows_again : (ws rs table : List (Prefix × Entry)) → ((q : Prefix) → has_row ws q ≡ true → has_row rs q ≡ true) → with_rows rs (with_rows ws table) ≡ with_rows rs table
rows_again [] rs table covered = refl
rows_again (w ∷ ws) rs table covered =
    let here : has_row rs w.0 ≡ true = covered w.0 (ap (λ b. b || has_row ws w.0) ((prefix_eq-Decides w.0 w.0).1 refl)) in
    rows_again ws rs (put prefix_cmp w.0 w.1 table) (λ q h. covered q (ap (λ b. prefix_eq w.0 q || b) h ∙ or-true (prefix_eq w.0 q)))
    ∙ set_again w.0 w.1 rs table here
