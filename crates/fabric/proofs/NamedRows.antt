-- The rows that a publication names make the chosen rows of those in force, and are those of all that waits.
use Rattle.std.proofs.Common.{◌≡◌, ◌∙◌, ◌||◌, not, Bool, true, false, cond, List, [], ◌∷◌, filter, Some, IsSome, refl, ap, sym}
use Rattle.std.specs.FinMap.{find as row_of, put, is_sorted}
use Rattle.no_packet_loops.proofs.Common.{below_all, by_order, list_any, and_parts, and_from, tied_itself, or-true, Prefix, prefix_cmp, prefix_eq, prefix_cmp_total, prefix_eq-Decides, Entry, Table, changed_rows, has_row as stands_in, with_rows, with_rows-past}
use Rattle.publication.proofs.RowsAgain.{has_row, rows_again}
use Rattle.fabric.specs.Patches.{rows_to_set}

-- ---- rows that are set over themselves

below-filter : (test : Prefix × Entry → Bool) (p : Prefix) (rows : List (Prefix × Entry)) → below_all prefix_cmp p rows ≡ true → below_all prefix_cmp p (filter test rows) ≡ true
below-filter test p [] below = refl
below-filter test p (r ∷ rs) below =
    let parts = and_parts _ _ below in
    let rest = below-filter test p rs parts.1 in
    elim (test r) as (λ b. below_all prefix_cmp p (cond b (r ∷ filter test rs) (filter test rs)) ≡ true) [ true ↦ and_from _ _ parts.0 rest | false ↦ rest ]

-- some of the rows, set over all of them, change nothing
set_same : (test : Prefix × Entry → Bool) (rows : List (Prefix × Entry)) → is_sorted prefix_cmp rows ≡ true → with_rows (filter test rows) rows ≡ rows
set_same test [] sorted = refl
set_same test (r ∷ rs) sorted =
    let parts = and_parts _ _ sorted in
    let past : with_rows (filter test rs) (r ∷ rs) ≡ r ∷ rs = with_rows-past r (filter test rs) rs (below-filter test r.0 rs parts.0) ∙ ap (λ xs. r ∷ xs) (set_same test rs parts.1) in
    let here : put prefix_cmp r.0 r.1 (r ∷ rs) ≡ r ∷ rs = ap (λ o. by_order o ((r.0, r.1) ∷ r ∷ rs) ((r.0, r.1) ∷ rs) (r ∷ put prefix_cmp r.0 r.1 rs)) (tied_itself prefix_cmp_total r.0) in
    elim (test r) as (λ b. with_rows (cond b (r ∷ filter test rs) (filter test rs)) (r ∷ rs) ≡ r ∷ rs) [ true ↦ ap (with_rows (filter test rs)) here ∙ past | false ↦ past ]

-- ---- more rows that are set

-- the prefixes that some rows name are named by more of them
named_more : (some more : Prefix × Entry → Bool) → ((r : Prefix × Entry) → some r ≡ true → more r ≡ true) → (rows : List (Prefix × Entry)) (q : Prefix) → has_row (filter some rows) q ≡ true → has_row (filter more rows) q ≡ true
named_more some more each [] q named = named
named_more some more each (r ∷ rs) q named = by_tests (some r) (more r) (each r) named (named_more some more each rs q)
  where
    by_tests : (a b : Bool) → (a ≡ true → b ≡ true) → has_row (cond a (r ∷ filter some rs) (filter some rs)) q ≡ true → (has_row (filter some rs) q ≡ true → has_row (filter more rs) q ≡ true)
        → has_row (cond b (r ∷ filter more rs) (filter more rs)) q ≡ true
    by_tests true true h here rest = elim (prefix_eq r.0 q) as (λ b. (b || has_row (filter some rs) q) ≡ true → (b || has_row (filter more rs) q) ≡ true) [ true ↦ λ _. refl | false ↦ rest ] here
    by_tests true false h here rest = absurd (let no : true ≡ false = sym (h refl) in cc)
    by_tests false true h here rest = ap (λ b. prefix_eq r.0 q || b) (rest here) ∙ or-true (prefix_eq r.0 q)
    by_tests false false h here rest = rest here

-- what a publication names makes the chosen rows of those in force
pub set_more : (t : Table) (waiting : List Prefix) → is_sorted prefix_cmp t.control ≡ true → with_rows (changed_rows t) t.published ≡ t.control → with_rows (rows_to_set t waiting) t.published ≡ t.control
set_more t waiting sorted changes =
    sym (rows_again (changed_rows t) (rows_to_set t waiting) t.published (named_more (λ r. not (stands_in t.published r)) (λ r. not (stands_in t.published r) || list_any (λ p. prefix_eq p r.0) waiting)
    (λ r differs. ap (λ b. b || list_any (λ p. prefix_eq p r.0) waiting) differs) t.control))
    ∙ ap (with_rows (rows_to_set t waiting)) changes
    ∙ set_same (λ r. not (stands_in t.published r) || list_any (λ p. prefix_eq p r.0) waiting) t.control sorted

-- ---- what waits

-- a prefix that has a row is named where the test passes at its rows
named_where : (test : Prefix × Entry → Bool) (q : Prefix) → ((r : Prefix × Entry) → q ≡ r.0 → test r ≡ true) → (rows : List (Prefix × Entry)) → IsSome (row_of prefix_cmp q rows) → has_row (filter test rows) q ≡ true
named_where test q passes [] there = absurd (let no : false ≡ true = there in cc)
named_where test q passes (r ∷ rs) there = by_key (prefix_eq q r.0) refl there (named_where test q passes rs)
  where
    rest : List (Prefix × Entry)
    rest = filter test rs

    -- the first row is kept or not, and the others name the prefix
    behind : has_row rest q ≡ true → has_row (cond (test r) (r ∷ rest) rest) q ≡ true
    behind named = elim (test r) as (λ b. has_row (cond b (r ∷ rest) rest) q ≡ true) [ true ↦ ap (λ b. prefix_eq r.0 q || b) named ∙ or-true (prefix_eq r.0 q) | false ↦ named ]

    by_key : (b : Bool) → prefix_eq q r.0 ≡ b → IsSome (cond b (Some r.1) (row_of prefix_cmp q rs)) → (IsSome (row_of prefix_cmp q rs) → has_row rest q ≡ true) → has_row (cond (test r) (r ∷ rest) rest) q ≡ true
    by_key true is _ _ =
        let same : q ≡ r.0 = (prefix_eq-Decides q r.0).0 is in
        let here : prefix_eq r.0 q ≡ true = (prefix_eq-Decides r.0 q).1 (sym same) in
        ap (λ b. has_row (cond b (r ∷ rest) rest) q) (passes r same) ∙ ap (λ b. b || has_row rest q) here
    by_key false is is_there later = behind (later is_there)

-- a publication names each prefix that waits and has a chosen row
pub waiting_named : (t : Table) (waiting : List Prefix) (q : Prefix) → list_any (λ p. prefix_eq p q) waiting ≡ true → IsSome (row_of prefix_cmp q t.control) → has_row (rows_to_set t waiting) q ≡ true
waiting_named t waiting q waits there = named_where (λ r. not (stands_in t.published r) || list_any (λ p. prefix_eq p r.0) waiting) q
    (λ r same. ap (λ b. not (stands_in t.published r) || b) (ap (λ k. list_any (λ p. prefix_eq p k) waiting) (sym same) ∙ waits) ∙ or-true (not (stands_in t.published r))) t.control there

-- it names no prefix without a chosen row
pub named_chosen : (t : Table) (waiting : List Prefix) (q : Prefix) → has_row (rows_to_set t waiting) q ≡ true → IsSome (row_of prefix_cmp q t.control)
named_chosen t waiting q named = among t.control named
  where
    test : Prefix × Entry → Bool
    test r = not (stands_in t.published r) || list_any (λ p. prefix_eq p r.0) waiting

    among : (rows : List (Prefix × Entry)) → has_row (filter test rows) q ≡ true → IsSome (row_of prefix_cmp q rows)
    among [] none = absurd (let no : false ≡ true = none in cc)
    among (r ∷ rs) some = by_key (prefix_eq q r.0) refl (among rs)
      where
        first_is_not : prefix_eq q r.0 ≡ false → prefix_eq r.0 q ≡ true → ⊥
        first_is_not is here = absurd (let same : false ≡ true = sym is ∙ (prefix_eq-Decides q r.0).1 (sym ((prefix_eq-Decides r.0 q).0 here)) in cc)

        later : (a b : Bool) → prefix_eq r.0 q ≡ a → (a ≡ true → ⊥) → has_row (cond b (r ∷ filter test rs) (filter test rs)) q ≡ true → has_row (filter test rs) q ≡ true
        later true b is not_here here = absurd (not_here refl)
        later false true is not_here here = sym (ap (λ a. a || has_row (filter test rs) q) is) ∙ here
        later false false is not_here here = here

        by_key : (b : Bool) → prefix_eq q r.0 ≡ b → (has_row (filter test rs) q ≡ true → IsSome (row_of prefix_cmp q rs)) → IsSome (cond b (Some r.1) (row_of prefix_cmp q rs))
        by_key true is rest = refl
        by_key false is rest = rest (later (prefix_eq r.0 q) (test r) refl (first_is_not is) some)
