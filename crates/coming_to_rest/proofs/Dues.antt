-- What a router has to publish and release: to do either makes it less.
use Rattle.std.proofs.Common.{refl, ap, subst, arith, inl, inr, ◌∙◌, ◌≡◌, ◌⊎◌, ℕ, zero, suc, ◌+◌, ◌<◌, Bool, true, false, not, cond, nat_lt, List, [], ◌∷◌, length, filter, Some, slice_get, length-drop, ltb-true}
use Rattle.no_packet_loops.proofs.Common.{option_map_or, or_cases, entry_eq, and_parts, tied_itself, Prefix, prefix_cmp, prefix_cmp_total, Entry, Held, Router, chosen_rows, changed_rows, has_row, is_due, ripe_front, router_publishing, router_releasing, entry_eq-refl, unripe_of, None_not_Some, Some_injective, is_eq, find as row_of, is_sorted, below_all, session_at, changed_hops, offered_hops, has_changes, NextHop}
use Rattle.no_packet_loops.proofs.{Publishing.control_sorted, Quiet.found_later, Releasing.front_of, Releasing.unripe_left}
use Rattle.network_model.specs.{NextHops.hops_eq, Step.has_hops}
use Rattle.network_model.proofs.HopLaws.{hops_eq-refl, offered_sorted}

-- ---- rows

-- each of rows in order is found
found_at : {X : Type 0} (rows : List (Prefix × X)) (k : ℕ) (r : Prefix × X) → is_sorted prefix_cmp rows ≡ true → slice_get rows k ≡ Some r → row_of prefix_cmp r.0 rows ≡ Some r.1
found_at [] k r h at = absurd (None_not_Some at)
found_at (x ∷ xs) zero r h at = subst (λ y. row_of prefix_cmp y.0 (x ∷ xs) ≡ Some y.1) (Some_injective at) (ap (λ o. cond (is_eq o) (Some x.1) (row_of prefix_cmp x.0 xs)) (tied_itself prefix_cmp_total x.0))
found_at (x ∷ xs) (suc k) r h at =
    let parts = and_parts (below_all prefix_cmp x.0 xs) (is_sorted prefix_cmp xs) h in
    found_later x xs parts.0 r.0 r.1 (found_at xs k r parts.1 at)

-- a test that passes nowhere keeps nothing
filter_none : {X : Type 0} (test : X → Bool) (xs : List X) → ((k : ℕ) (x : X) → slice_get xs k ≡ Some x → test x ≡ false) → filter test xs ≡ []
filter_none test [] h = refl
filter_none test (x ∷ xs) h = rw (h zero x refl) (filter_none test xs (λ k y at. h (suc k) y at))

-- no row of rows in order differs from those rows
none_changed : (rows : List (Prefix × Entry)) → is_sorted prefix_cmp rows ≡ true → changed_rows (record { control = rows; published = rows }) ≡ []
none_changed rows sorted = filter_none (λ r. not (has_row rows r)) rows (λ k r at. ap not (ap (λ o. option_map_or (λ e. entry_eq e r.1) o false) (found_at rows k r sorted at) ∙ entry_eq-refl r.1))

-- ---- next hops

-- a router that publishes has no other next hops to offer
none_offered : (r : Router) → is_sorted prefix_cmp r.machines ≡ true → changed_hops (router_publishing r) ≡ []
none_offered r sorted =
    let rows = offered_hops r in
    let in_order = offered_sorted (r.hops).offer (session_at r.ports) r.machines sorted in
    filter_none (λ x. not (has_hops rows x)) rows (λ k x at. ap not (ap (λ o. option_map_or (λ hs. hops_eq hs x.1) o false) (found_at rows k x in_order at) ∙ hops_eq-refl x.1))

-- ---- a router

-- what it has to publish and release
abbrev pub router_dues : Router → ℕ
router_dues r = length (r.gate).held + length (unripe_of r) + length (changed_rows r.table) + length (changed_hops r)

-- a router that publishes what is due has less
pub published_less : (r : Router) → (r.table).control ≡ chosen_rows r.ports r.machines → is_sorted prefix_cmp r.machines ≡ true → is_due r ≡ true → router_dues (router_publishing r) < router_dues r
published_less r control_is sorted due = by_rows (or_cases (has_changes r) (nat_lt (r.gate).ripe (length (r.gate).held)) due)
  where
    -- and so are the next hops that it offers
    hops : length (changed_hops (router_publishing r)) ≡ 0
    hops = ap length (none_offered r sorted)

    -- its rows in force are those that it chose
    rows : length (changed_rows (router_publishing r).table) ≡ 0
    rows = ap length (none_changed (r.table).control (control_sorted r control_is sorted))

    -- next hops or rows were due
    by_hops : (nat_lt 0 (length (changed_hops r)) ≡ true) ⊎ (nat_lt 0 (length (changed_rows r.table)) ≡ true) → router_dues (router_publishing r) < router_dues r
    by_hops (inl t) = omega (arith, rows, hops, ltb-true 0 (length (changed_hops r)) t, length-drop (length (r.gate).held) (r.gate).held)
    by_hops (inr t) = omega (arith, rows, hops, ltb-true 0 (length (changed_rows r.table)) t, length-drop (length (r.gate).held) (r.gate).held)

    -- something was due
    by_rows : (has_changes r ≡ true) ⊎ (nat_lt (r.gate).ripe (length (r.gate).held) ≡ true) → router_dues (router_publishing r) < router_dues r
    by_rows (inl t) = by_hops (or_cases (nat_lt 0 (length (changed_hops r))) (nat_lt 0 (length (changed_rows r.table))) t)
    by_rows (inr t) = omega (arith, rows, hops, ltb-true (r.gate).ripe (length (r.gate).held) t, length-drop (length (r.gate).held) (r.gate).held, length-drop (r.gate).ripe (r.gate).held)

-- and one that releases a message
pub released_less : (r : Router) (h : Held) → ripe_front r ≡ Some h → router_dues (router_releasing r) < router_dues r
released_less r h first = let F = front_of r h first in omega (arith, ap length F.held_is, length-drop 1 (r.gate).held, ap length (unripe_left r h F))
