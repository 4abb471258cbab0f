-- A prefix that is forgotten: without its row there, the two maps are without theirs.
use Rattle.std.proofs.Common.{◌≡◌, ℕ, zero, suc, ◌≤◌, Bool, true, false, cond, not, List, [], ◌∷◌, map, length, drop, Option, Some, None, refl, sym, ap, ◌∙◌, arith}
use Rattle.std.specs.{FinMap.is_sorted, List.filter, List.cons_option, Option.option_map}
use Rattle.std.proofs.{lemmas.Bool.and_parts, lemmas.List.Filters.length-filter_both}
use Rattle.ipv4_prefix.specs.Prefix.{Prefix, prefix_cmp, prefix_eq}
use Rattle.network_model.specs.declared.route.Entry.{Entry}
use Rattle.route_table.specs.{declared.row.Row.Row, Parts.without_rows, Place.without}
use Rattle.route_table.specs.Rows.{control_rows, published_rows, table_of, differs, differing_rows}

-- the order of two tests is of no matter
filters_swap : {X : Type 0} (f g : X → Bool) (xs : List X) → filter f (filter g xs) ≡ filter g (filter f xs)
filters_swap f g [] = refl
filters_swap f g (x ∷ xs) = by_tests (f x) (g x) refl refl (filters_swap f g xs)
  where
    by_tests : (a b : Bool) → f x ≡ a → g x ≡ b → filter f (filter g xs) ≡ filter g (filter f xs) → filter f (cond b (x ∷ filter g xs) (filter g xs)) ≡ filter g (cond a (x ∷ filter f xs) (filter f xs))
    by_tests true true by_f by_g rest = ap (λ t. cond t (x ∷ filter f (filter g xs)) (filter f (filter g xs))) by_f ∙ ap (λ ys. x ∷ ys) rest ∙ sym (ap (λ t. cond t (x ∷ filter g (filter f xs)) (filter g (filter f xs))) by_g)
    by_tests true false by_f by_g rest = rest ∙ sym (ap (λ t. cond t (x ∷ filter g (filter f xs)) (filter g (filter f xs))) by_g)
    by_tests false true by_f by_g rest = ap (λ t. cond t (x ∷ filter f (filter g xs)) (filter f (filter g xs))) by_f ∙ rest
    by_tests false false by_f by_g rest = rest

-- a change of the values leaves which row goes
pub map-without : {X Y : Type 0} (f : X → Y) (p : Prefix) (rows : List (Prefix × X)) → map (λ r. (r.0, f r.1)) (without p rows) ≡ without p (map (λ r. (r.0, f r.1)) rows)
map-without f p [] = refl
map-without f p (r ∷ rs) =
    let g : Prefix × _ → Prefix × _ = λ r. (r.0, f r.1) in
    elim (not (prefix_eq p r.0)) as (λ b. map g (cond b (r ∷ without p rs) (without p rs)) ≡ cond b (g r ∷ without p (map g rs)) (without p (map g rs))) [
      | true ↦ ap (λ xs. g r ∷ xs) (map-without f p rs)
      | false ↦ map-without f p rs
    ]

pub length-without : {X : Type 0} (p : Prefix) (rows : List (Prefix × X)) → length (without p rows) ≤ length rows
length-without p rows = omega (arith, length-filter_both (λ r. not (prefix_eq p r.0)) (λ r. not (not (prefix_eq p r.0))) (λ _. refl) rows)

control-without : (p : Prefix) (rows : List (Prefix × Row)) → control_rows (without p rows) ≡ without p (control_rows rows)
control-without p rows = map-without (λ (r : Row). r.control) p rows

pub differing-without : (p : Prefix) (rows : List (Prefix × Row)) → differing_rows (without p rows) ≡ without p (differing_rows rows)
differing-without p rows = ap control_rows (filters_swap (λ r. differs r.1) (λ r. not (prefix_eq p r.0)) rows) ∙ control-without p (filter (λ r. differs r.1) rows)

-- the published row of one prefix before those of others goes with the row, or stays
without_first : (p q : Prefix) (o : Option Entry) (es : List (Prefix × Entry))
    → without p (cons_option (option_map (λ e. (q, e)) o) es) ≡ cond (not (prefix_eq p q)) (cons_option (option_map (λ e. (q, e)) o) (without p es)) (without p es)
without_first p q None es = elim (not (prefix_eq p q)) as (λ b. without p es ≡ cond b (without p es) (without p es)) [ true ↦ refl | false ↦ refl ]
without_first p q (Some e) es = refl

published-without : (p : Prefix) (rows : List (Prefix × Row)) → published_rows (without p rows) ≡ without p (published_rows rows)
published-without p [] = refl
published-without p (r ∷ rs) =
    let row : List (Prefix × Entry) → List (Prefix × Entry) = cons_option (option_map (λ e. (r.0, e)) (r.1).published) in
    elim (not (prefix_eq p r.0)) as (λ b. published_rows (cond b (r ∷ without p rs) (without p rs)) ≡ cond b (row (without p (published_rows rs))) (without p (published_rows rs))) [
      | true ↦ ap row (published-without p rs)
      | false ↦ published-without p rs
    ] ∙ sym (without_first p r.0 (r.1).published (published_rows rs))

pub table-without : (p : Prefix) (rows : List (Prefix × Row)) → table_of (without p rows) ≡ without_rows p (table_of rows)
table-without p rows = λ i. record { control = control-without p rows i; published = published-without p rows i }

-- ---- the first rows go

pub sorted-drop : {X : Type 0} (n : ℕ) (rows : List (Prefix × X)) → is_sorted prefix_cmp rows ≡ true → is_sorted prefix_cmp (drop n rows) ≡ true
sorted-drop zero rows s = s
sorted-drop (suc n) [] s = refl
sorted-drop (suc n) (r ∷ rs) s = sorted-drop n rs (and_parts _ _ s).1
