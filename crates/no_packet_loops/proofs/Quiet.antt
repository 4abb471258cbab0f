-- A router that is quiet: its machines are passive, it holds nothing, and its published rows are those of its machines.
use Rattle.std.proofs.Common.{refl, sym, ap, ◌∙◌, arith, ◌≡◌, ℕ, zero, suc, ◌≤◌, Bool, true, false, cond, not, ◌&&◌, ◌||◌, ◌==◌, nat_lt, if◌then◌else◌, List, [], ◌∷◌, length, take, drop, filter, Option, Some, None, slice_get, option_map, unwrap_or, is_none, is_some, eq-eqb, ltb-false, lt-ltb}
use Rattle.no_packet_loops.proofs.Common.{list_all, option_map_or, take-nil, drop-nil, and_from, and_parts, false≢true, tied_itself, below_all, Prefix, prefix_cmp, prefix_eq, prefix_cmp_total, Machine, Computation, opening_machine, port_count, Entry, Local, Via, Unreachable, Held, Port, Router, machine_of, neighbours, entry_eq, has_row, changed_rows, chosen_rows, entry_of, session_at, is_due, ripe_front, is_empty, is_quiet_router, entry_from_eq, Some_injective, None_not_Some, is_active, find_below, ripe_of, unripe_of, find as row_of, is_sorted, is_eq, changed_hops}
use Rattle.no_packet_loops.proofs.{Machines.prefix_same, Publishing.control_row}

-- ---- lists

-- a list that is empty by the test is the empty list
pub empty_is : {A : Type 0} (xs : List A) → is_empty xs ≡ true → xs ≡ []
empty_is [] h = refl
empty_is (x ∷ xs) h = absurd (false≢true h)

-- a list of no length is empty by the test
empty_length : {A : Type 0} (xs : List A) → length xs ≤ 0 → is_empty xs ≡ true
empty_length [] h = refl
empty_length (x ∷ xs) h = absurd (omega (arith, h))

-- where no element that fails is left, all pass
pub nothing_filtered : {A : Type 0} (f : A → Bool) (xs : List A) → is_empty (filter (λ x. not (f x)) xs) ≡ true → list_all f xs ≡ true
nothing_filtered f [] h = refl
nothing_filtered f (x ∷ xs) h = by_test (f x) h (nothing_filtered f xs)
  where
    by_test : (b : Bool) → is_empty (cond (not b) (x ∷ filter (λ y. not (f y)) xs) (filter (λ y. not (f y)) xs)) ≡ true → (is_empty (filter (λ y. not (f y)) xs) ≡ true → list_all f xs ≡ true) → (b && list_all f xs) ≡ true
    by_test true e rest = rest e
    by_test false e rest = absurd (false≢true e)

-- where all rows pass, the one that is found does
pub row_passes : {X : Type 0} (p : Prefix) (f : Prefix × X → Bool) (rows : List (Prefix × X)) → list_all f rows ≡ true → (x : X) → row_of prefix_cmp p rows ≡ Some x → f (p, x) ≡ true
row_passes p f [] h x e = absurd (None_not_Some e)
row_passes p f (r ∷ rs) h x e = by_key (prefix_eq p r.0) refl e (row_passes p f rs (and_parts (f r) (list_all f rs) h).1 x)
  where
    by_key : (b : Bool) → prefix_eq p r.0 ≡ b → cond b (Some r.1) (row_of prefix_cmp p rs) ≡ Some x → (row_of prefix_cmp p rs ≡ Some x → f (p, x) ≡ true) → f (p, x) ≡ true
    by_key true is g rest =
        let k : p ≡ r.0 = prefix_same p r.0 is in
        let v : x ≡ r.1 = sym (Some_injective g) in
        (λ z. f (k z, v z)) ∙ (and_parts (f r) (list_all f rs) h).0
    by_key false is g rest = rest g

-- what is found for a key among sorted rows is found with an earlier row before them
pub found_later : {X : Type 0} (r : Prefix × X) (rows : List (Prefix × X)) → below_all prefix_cmp r.0 rows ≡ true → (p : Prefix) (x : X) → row_of prefix_cmp p rows ≡ Some x → row_of prefix_cmp p (r ∷ rows) ≡ Some x
found_later r rows below p x is = by_key (prefix_eq p r.0) refl
  where
    by_key : (b : Bool) → prefix_eq p r.0 ≡ b → cond b (Some r.1) (row_of prefix_cmp p rows) ≡ Some x
    by_key true same = absurd (None_not_Some (sym (find_below prefix_cmp r.0 rows below) ∙ ap (λ (q : Prefix). row_of prefix_cmp q rows) (sym (prefix_same p r.0 same)) ∙ is))
    by_key false apart = is

-- where the one that is found for each key passes, all sorted rows do
rows_pass : {X : Type 0} (f : X → Bool) (rows : List (Prefix × X)) → is_sorted prefix_cmp rows ≡ true → ((p : Prefix) (x : X) → row_of prefix_cmp p rows ≡ Some x → f x ≡ true) → list_all (λ r. f r.1) rows ≡ true
rows_pass f [] sorted each = refl
rows_pass f (r ∷ rows) sorted each =
    let parts = and_parts (below_all prefix_cmp r.0 rows) (is_sorted prefix_cmp rows) sorted in
    let here : row_of prefix_cmp r.0 (r ∷ rows) ≡ Some r.1 = ap (λ o. cond (is_eq o) (Some r.1) (row_of prefix_cmp r.0 rows)) (tied_itself prefix_cmp_total r.0) in
    and_from (f r.1) (list_all (λ x. f x.1) rows) (each r.0 r.1 here) (rows_pass f rows parts.1 (λ p x is. each p x (found_later r rows parts.0 p x is)))

-- ---- a row

-- the entry of a machine whose successor is its attachment is Local
pub entry_local : (ports : List Port) (m : Machine) → m.successor ≡ Some (port_count m) → entry_of ports m ≡ Local
entry_local ports m h =
    ap (λ x. option_map_or (λ q. if q == port_count m then Local else Via q (session_at ports q)) x Unreachable) h
    ∙ ap (λ b. if b then Local else Via (port_count m) (session_at ports (port_count m))) (eq-eqb (port_count m) (port_count m) refl)

-- the entry of a machine without a successor is Unreachable
pub entry_lost : (ports : List Port) (m : Machine) → m.successor ≡ None → entry_of ports m ≡ Unreachable
entry_lost ports m none = ap (λ x. option_map_or (λ q. if q == port_count m then Local else Via q (session_at ports q)) x Unreachable) none

-- ---- a router that has nothing left to do

-- it holds nothing, and its offered next hops and chosen rows are those published
pub record IsDone (r : Router) : Type 0 where
  pub offers : is_empty (changed_hops r) ≡ true
  pub holds_none : (r.gate).held ≡ []
  pub published : is_empty (changed_rows r.table) ≡ true

-- a router with nothing to publish, and nothing to release, is done
pub done_of : (r : Router) → is_due r ≡ false → ripe_front r ≡ None → IsDone r
done_of r idle none = by_tests (nat_lt 0 (length (changed_hops r))) refl (nat_lt 0 (length (changed_rows r.table))) refl (nat_lt (r.gate).ripe (length (r.gate).held)) refl idle
  where
    holds : (xs : List Held) (m : ℕ) → length xs ≤ m → (if nat_lt 0 m then slice_get xs 0 else None) ≡ None → xs ≡ []
    holds [] m le f = refl
    holds (x ∷ xs) zero le f = absurd (omega (arith, le))
    holds (x ∷ xs) (suc m) le f = absurd (None_not_Some (sym (sym (ap (λ b. if b then Some x else None) (lt-ltb 0 (suc m) (omega arith))) ∙ f)))

    by_tests : (h : Bool) → nat_lt 0 (length (changed_hops r)) ≡ h → (a : Bool) → nat_lt 0 (length (changed_rows r.table)) ≡ a → (b : Bool) → nat_lt (r.gate).ripe (length (r.gate).held) ≡ b → (h || a || b) ≡ false → IsDone r
    by_tests false ht false at false bt e = record {
      offers = empty_length (changed_hops r) (ltb-false 0 (length (changed_hops r)) ht);
      holds_none = holds (r.gate).held (r.gate).ripe (ltb-false (r.gate).ripe (length (r.gate).held) bt) none;
      published = empty_length (changed_rows r.table) (ltb-false 0 (length (changed_rows r.table)) at);
    }
    by_tests _ ht _ at _ bt e = absurd (false≢true (sym e))

-- where it holds nothing, nothing is ripe
pub nothing_ripe : (r : Router) → (r.gate).held ≡ [] → ripe_of r ≡ []
nothing_ripe r h = ap (take (r.gate).ripe) h ∙ take-nil (r.gate).ripe

-- nor unripe
pub nothing_unripe : (r : Router) → (r.gate).held ≡ [] → unripe_of r ≡ []
nothing_unripe r h = ap (drop (r.gate).ripe) h ∙ drop-nil (r.gate).ripe

-- ---- a router that is quiet

-- one that is done is quiet, where every machine is passive
pub quiet_of : (r : Router) → is_sorted prefix_cmp r.machines ≡ true → ((p : Prefix) → is_active (machine_of r p) ≡ false) → IsDone r → is_quiet_router r ≡ true
quiet_of r sorted passive d =
    and_from _ (is_empty (changed_rows r.table)) (and_from (is_empty (changed_hops r) && list_all (λ m. is_none (m.1).computation) r.machines) (is_empty (r.gate).held) (and_from (is_empty (changed_hops r)) (list_all (λ m. is_none (m.1).computation) r.machines) d.offers (rows_pass (λ (m : Machine). is_none m.computation) r.machines sorted no_computation)) (ap is_empty d.holds_none)) d.published
  where
    by_computation : (c : Option Computation) → is_some c ≡ false → is_none c ≡ true
    by_computation None e = refl
    by_computation (Some c) e = absurd (false≢true (sym e))

    no_computation : (p : Prefix) (m : Machine) → row_of prefix_cmp p r.machines ≡ Some m → is_none m.computation ≡ true
    no_computation p m is = by_computation m.computation (sym (ap (λ o. is_active (unwrap_or o (opening_machine None (neighbours r.ports)))) is) ∙ passive p)

-- the machine of the prefix is passive, the router is done, and the published row is the chosen one
pub record Still (p : Prefix) (r : Router) : Type 0 where
  pub passive : is_active (machine_of r p) ≡ false
  pub done : IsDone r
  pub row_is : row_of prefix_cmp p (r.table).published ≡ row_of prefix_cmp p (r.table).control

-- so it is at a quiet router, which publishes no row of a prefix that is unheard
pub still_quiet : (p : Prefix) (r : Router) → (r.table).control ≡ chosen_rows r.ports r.machines → (row_of prefix_cmp p r.machines ≡ None → row_of prefix_cmp p (r.table).published ≡ None) → is_quiet_router r ≡ true → Still p r
still_quiet p r control_is heard quiet = record { passive = passive (row_of prefix_cmp p r.machines) refl; done = record { offers = hops.0; holds_none = empty_is (r.gate).held first.1; published = parts.1 }; row_is = row (row_of prefix_cmp p (r.table).control) refl }
  where
    parts : ((is_empty (changed_hops r) && list_all (λ m. is_none (m.1).computation) r.machines && is_empty (r.gate).held) ≡ true) × (is_empty (changed_rows r.table) ≡ true)
    parts = and_parts (is_empty (changed_hops r) && list_all (λ m. is_none (m.1).computation) r.machines && is_empty (r.gate).held) (is_empty (changed_rows r.table)) quiet

    first : ((is_empty (changed_hops r) && list_all (λ m. is_none (m.1).computation) r.machines) ≡ true) × (is_empty (r.gate).held ≡ true)
    first = and_parts (is_empty (changed_hops r) && list_all (λ m. is_none (m.1).computation) r.machines) (is_empty (r.gate).held) parts.0

    hops : (is_empty (changed_hops r) ≡ true) × (list_all (λ m. is_none (m.1).computation) r.machines ≡ true)
    hops = and_parts (is_empty (changed_hops r)) (list_all (λ m. is_none (m.1).computation) r.machines) first.0

    not_active : (c : Option Computation) → is_none c ≡ true → is_some c ≡ false
    not_active None h = refl
    not_active (Some c) h = absurd (false≢true h)

    passive : (o : Option Machine) → row_of prefix_cmp p r.machines ≡ o → is_active (unwrap_or o (opening_machine None (neighbours r.ports))) ≡ false
    passive None is = refl
    passive (Some m) is = not_active m.computation (row_passes p (λ x. is_none (x.1).computation) r.machines hops.1 m is)

    found : (e : Entry) (o : Option Entry) → option_map_or (λ x. entry_eq x e) o false ≡ true → o ≡ Some e
    found e None h = absurd (false≢true h)
    found e (Some x) h = ap Some (entry_from_eq x e h)

    unheard : (o : Option Machine) → row_of prefix_cmp p r.machines ≡ o → option_map (λ m. entry_of r.ports m) o ≡ None → row_of prefix_cmp p r.machines ≡ None
    unheard None is e = is
    unheard (Some m) is e = absurd (None_not_Some (sym e))

    row : (o : Option Entry) → row_of prefix_cmp p (r.table).control ≡ o → row_of prefix_cmp p (r.table).published ≡ row_of prefix_cmp p (r.table).control
    row None is = heard (unheard (row_of prefix_cmp p r.machines) refl (sym (control_row p r control_is) ∙ is)) ∙ sym is
    row (Some e) is =
        let all : list_all (has_row (r.table).published) (r.table).control ≡ true = nothing_filtered (has_row (r.table).published) (r.table).control parts.1 in
        found e (row_of prefix_cmp p (r.table).published) (row_passes p (has_row (r.table).published) (r.table).control all e is) ∙ sym is
