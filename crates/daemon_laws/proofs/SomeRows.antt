-- Some rows that are put in force, and the rows of a prefix that is forgotten.
use Rattle.std.proofs.Common.{refl, sym, ap, ◌∙◌, ◌≡◌, ℕ, zero, suc, Bool, true, false, cond, not, if◌then◌else◌, List, [], ◌∷◌, take, filter, Option, Some, None, is_some, is_none, unwrap_or}
use Rattle.no_packet_loops.proofs.Common.{None_not_Some, and_parts, find-put, find-where_key, find_below, below_all, Prefix, prefix_cmp, prefix_eq, prefix_cmp_total, Machine, Entry, Port, chosen_rows, entry_of, sorted-put, with_rows, is_sorted, NextHop, false_from_ne_true, find as row_of, put, prefix_cmp-tied}
use Rattle.network_model.proofs.Common.{both_ways}
use Rattle.network_model.specs.NextHops.{hops_at}
use Rattle.no_packet_loops.proofs.Machines.{prefix_same, prefix_itself}
use Rattle.route_table.specs.Place.{without}
use Rattle.router_core.specs.Alone.{hops_beside, hops_apart}

-- ---- rows in force

-- each of these rows is the one that the others have for its prefix
abbrev pub AllIn : {X : Type 0} → List (Prefix × X) → List (Prefix × X) → Type 0
AllIn [] table = Unit {0}
AllIn (r ∷ rows) table = (row_of prefix_cmp r.0 table ≡ Some r.1) × AllIn rows table

-- so it is with a row before all others
in_later : {X : Type 0} (r : Prefix × X) (xs rows : List (Prefix × X)) → below_all prefix_cmp r.0 rows ≡ true → AllIn xs rows → AllIn xs (r ∷ rows)
in_later r [] rows below all = tt
in_later r (x ∷ xs) rows below all = (by_key (prefix_eq x.0 r.0) refl, in_later r xs rows below all.1)
  where
    by_key : (b : Bool) → prefix_eq x.0 r.0 ≡ b → cond b (Some r.1) (row_of prefix_cmp x.0 rows) ≡ Some x.1
    by_key true same = absurd (None_not_Some (sym (find_below prefix_cmp r.0 rows below) ∙ ap (λ k. row_of prefix_cmp k rows) (sym (prefix_same x.0 r.0 same)) ∙ all.0))
    by_key false apart = all.0

-- so it is of rows in the order of the prefixes, each of which is its own
pub all_in_self : {X : Type 0} (rows : List (Prefix × X)) → is_sorted prefix_cmp rows ≡ true → AllIn rows rows
all_in_self [] sorted = tt
all_in_self (r ∷ rows) sorted =
    let parts = and_parts (below_all prefix_cmp r.0 rows) (is_sorted prefix_cmp rows) sorted in
    (ap (λ b. cond b (Some r.1) (row_of prefix_cmp r.0 rows)) (prefix_itself r.0), in_later r rows rows parts.0 (all_in_self rows parts.1))

-- of those that pass a test
pub all_in_filter : {X : Type 0} (test : Prefix × X → Bool) (rows table : List (Prefix × X)) → AllIn rows table → AllIn (filter test rows) table
all_in_filter test [] table all = tt
all_in_filter test (r ∷ rows) table all = by_test (test r) (all_in_filter test rows table all.1)
  where
    by_test : (b : Bool) → AllIn (filter test rows) table → AllIn (cond b (r ∷ filter test rows) (filter test rows)) table
    by_test true rest = (all.0, rest)
    by_test false rest = rest

-- and of the first of them
pub all_in_take : {X : Type 0} (n : ℕ) (xs table : List (Prefix × X)) → AllIn xs table → AllIn (take n xs) table
all_in_take zero [] table all = tt
all_in_take zero (x ∷ xs) table all = tt
all_in_take (suc n) [] table all = tt
all_in_take (suc n) (x ∷ xs) table all = (all.0, all_in_take n xs table all.1)

-- once some chosen rows are in force, the row of a prefix is the chosen one, where it is among them, and else as before
pub row_in_force : {X : Type 0} (p : Prefix) (rows control table : List (Prefix × X)) → AllIn rows control
    → row_of prefix_cmp p (with_rows rows table) ≡ (if is_some (row_of prefix_cmp p rows) then row_of prefix_cmp p control else row_of prefix_cmp p table)
row_in_force p [] control table all = refl
row_in_force {X} p (r ∷ rows) control table all =
    row_in_force p rows control (put prefix_cmp r.0 r.1 table) all.1
    ∙ ap (λ o. if is_some (row_of prefix_cmp p rows) then row_of prefix_cmp p control else o) (find-put prefix_cmp prefix_cmp_total p r.0 r.1 table)
    ∙ by_key (prefix_eq p r.0) refl (row_of prefix_cmp p rows)
  where
    by_key : (b : Bool) → prefix_eq p r.0 ≡ b → (o : Option X)
        → (if is_some o then row_of prefix_cmp p control else cond b (Some r.1) (row_of prefix_cmp p table)) ≡ (if is_some (cond b (Some r.1) o) then row_of prefix_cmp p control else row_of prefix_cmp p table)
    by_key true same None = sym (ap (λ k. row_of prefix_cmp k control) (prefix_same p r.0 same) ∙ all.0)
    by_key true same (Some e) = refl
    by_key false apart None = refl
    by_key false apart (Some e) = refl

-- once some rows are in force, the next hops of a prefix are the offered ones, if its row is among them, and else as before
pub hops_in_force : (p : Prefix) (rows : List (Prefix × Entry)) (offered published : List (Prefix × List NextHop)) → is_sorted prefix_cmp offered ≡ true
    → row_of prefix_cmp p (with_rows (hops_beside rows offered) (hops_apart rows published)) ≡ (if is_some (row_of prefix_cmp p rows) then row_of prefix_cmp p offered else row_of prefix_cmp p published)
hops_in_force p rows offered published sorted =
    row_in_force p (hops_beside rows offered) offered (hops_apart rows published) (all_in_filter (λ x. is_some (row_of prefix_cmp x.0 rows)) offered offered (all_in_self offered sorted))
    ∙ (λ z. if is_some (beside z) then row_of prefix_cmp p offered else apart z)
    ∙ by_row (row_of prefix_cmp p rows) (row_of prefix_cmp p offered)
  where
    beside : row_of prefix_cmp p (hops_beside rows offered) ≡ cond (is_some (row_of prefix_cmp p rows)) (row_of prefix_cmp p offered) None
    beside = find-where_key prefix_cmp (λ q. is_some (row_of prefix_cmp q rows)) p (λ x e. ap (λ q. is_some (row_of prefix_cmp q rows)) (sym (prefix_cmp-tied p x e))) offered

    apart : row_of prefix_cmp p (hops_apart rows published) ≡ cond (is_none (row_of prefix_cmp p rows)) (row_of prefix_cmp p published) None
    apart = find-where_key prefix_cmp (λ q. is_none (row_of prefix_cmp q rows)) p (λ x e. ap (λ q. is_none (row_of prefix_cmp q rows)) (sym (prefix_cmp-tied p x e))) published

    by_row : (row : Option Entry) (o : Option (List NextHop))
        → (if is_some (cond (is_some row) o None) then o else cond (is_none row) (row_of prefix_cmp p published) None) ≡ (if is_some row then o else row_of prefix_cmp p published)
    by_row None o = refl
    by_row (Some e) None = refl
    by_row (Some e) (Some hs) = refl

-- rows in force stay in the order of the prefixes
pub sorted_in_force : (rows table : List (Prefix × Entry)) → is_sorted prefix_cmp table ≡ true → is_sorted prefix_cmp (with_rows rows table) ≡ true
sorted_in_force [] table sorted = sorted
sorted_in_force (r ∷ rows) table sorted = sorted_in_force rows (put prefix_cmp r.0 r.1 table) (sorted-put table r.0 r.1 sorted)

-- ---- rows without those of a prefix

-- a row that is forgotten is not found
pub row_forgotten : {X : Type 0} (p : Prefix) (rows : List (Prefix × X)) → row_of prefix_cmp p (without p rows) ≡ None
row_forgotten p rows =
    find-where_key prefix_cmp (λ q. not (prefix_eq p q)) p (λ x e. ap (λ q. not (prefix_eq p q)) (sym (prefix_cmp-tied p x e))) rows
    ∙ ap (λ b. cond (not b) (row_of prefix_cmp p rows) None) (prefix_itself p)

-- prefixes are apart either way
pub apart_back : (p k : Prefix) → prefix_eq p k ≡ false → prefix_eq k p ≡ false
apart_back p k apart = false_from_ne_true (prefix_eq k p) (λ h. both_ways (prefix_eq p k) apart (ap (λ q. prefix_eq q k) (sym (prefix_same k p h)) ∙ prefix_itself k))

-- that of another prefix is found as before
pub row_beside : {X : Type 0} (p k : Prefix) (rows : List (Prefix × X)) → prefix_eq p k ≡ false → row_of prefix_cmp p (without k rows) ≡ row_of prefix_cmp p rows
row_beside p k rows apart =
    find-where_key prefix_cmp (λ q. not (prefix_eq k q)) p (λ x e. ap (λ q. not (prefix_eq k q)) (sym (prefix_cmp-tied p x e))) rows
    ∙ ap (λ b. cond (not b) (row_of prefix_cmp p rows) None) (apart_back p k apart)

-- rows that follow machines do so without those of a prefix
pub chosen_without : (k : Prefix) (ports : List Port) (machines : List (Prefix × Machine)) → without k (chosen_rows ports machines) ≡ chosen_rows ports (without k machines)
chosen_without k ports [] = refl
chosen_without k ports (m ∷ ms) = by_key (prefix_eq k m.0) (chosen_without k ports ms)
  where
    by_key : (b : Bool) → without k (chosen_rows ports ms) ≡ chosen_rows ports (without k ms)
        → cond (not b) ((m.0, entry_of ports m.1) ∷ without k (chosen_rows ports ms)) (without k (chosen_rows ports ms)) ≡ chosen_rows ports (cond (not b) (m ∷ without k ms) (without k ms))
    by_key true rest = rest
    by_key false rest = ap (λ rows. (m.0, entry_of ports m.1) ∷ rows) rest
