-- What a router has to publish, to release and may have to forget: whatever it does of that leaves less.
use Rattle.std.proofs.Common.{refl, sym, ap, subst, ◌∙◌, arith, inl, inr, ◌≡◌, ◌⊎◌, ℕ, zero, suc, ◌+◌, ◌<◌, ◌≤◌, Bool, true, false, not, cond, if◌then◌else◌, List, [], ◌∷◌, length, take, filter, Some, is_some, slice_get, ◌||◌}
use Rattle.no_packet_loops.proofs.Common.{option_map_or, false≢true, None_not_Some, Some_injective, Prefix, prefix_cmp, prefix_eq, prefix_cmp_total, Machine, Entry, entry_eq, entry_eq-refl, Router, has_row, changed_rows, with_rows, is_sorted, length_without, NextHop, session_at, changed_hops, offered_hops, find as row_of, to_T}
use Rattle.network_model.proofs.{Common.both_ways, HopLaws.hops_eq-refl, HopLaws.offered_sorted}
use Rattle.network_model.specs.{declared.network.Offer.Offer, declared.network.Offer.TheVariants.One, declared.network.Offer.TheVariants.Equal, declared.network.Offer.TheVariants.Feasible, Step.has_hops}
use Rattle.network_model.specs.NextHops.{hops_eq, hops_of, hops_by_prefix}
use Rattle.no_packet_loops.proofs.{Machines.prefix_itself, Machines.prefix_same, Publishing.control_sorted}
use Rattle.route_table.specs.Place.{without}
use Rattle.route_table.proofs.Forgotten.{map-without}
use Rattle.router_core.specs.Alone.{router_publishing_some, router_forgetting, has_other_hops, rows_due, hops_beside, hops_apart}
use Rattle.coming_to_rest.proofs.Dues.{router_dues}
use Rattle.daemon_laws.proofs.Routers.{RouterKept}
use Rattle.daemon_laws.proofs.SomeRows.{AllIn, all_in_self, all_in_filter, all_in_take, row_in_force, apart_back, row_beside, hops_in_force}

-- what a router has to publish and release, and may have to forget
abbrev pub dues_of : Router → ℕ
dues_of r = router_dues r + length r.machines

-- ---- rows that pass a test, and rows that pass another

-- the first that a test finds passes it
first_passes : {X : Type 0} (h : X → Bool) (xs : List X) (y : X) (ys : List X) → filter h xs ≡ y ∷ ys → h y ≡ true
first_passes h [] y ys is = absurd (None_not_Some (ap (λ zs. slice_get zs 0) is))
first_passes h (x ∷ xs) y ys is = by_test (h x) refl is (first_passes h xs y ys)
  where
    by_test : (a : Bool) → h x ≡ a → cond a (x ∷ filter h xs) (filter h xs) ≡ y ∷ ys → (filter h xs ≡ y ∷ ys → h y ≡ true) → h y ≡ true
    by_test true on e rest = ap h (sym (Some_injective (ap (λ zs. slice_get zs 0) e))) ∙ on
    by_test false off e rest = rest e

module _ {X : Type 0} (f g : X → Bool) where
  -- what passes the second test passes the first
  abbrev Passes : List X → Type 0
  Passes [] = Unit {0}
  Passes (x ∷ xs) = (g x ≡ true → f x ≡ true) × Passes xs

  -- something passes the first, and not the second
  abbrev Drops : List X → Type 0
  Drops [] = ⊥
  Drops (x ∷ xs) = ((f x ≡ true) × (g x ≡ false)) ⊎ Drops xs

  -- no more pass the second than the first
  no_more_pass : (xs : List X) → Passes xs → length (filter g xs) ≤ length (filter f xs)
  no_more_pass [] h = omega arith
  no_more_pass (x ∷ xs) h = by_tests (g x) (f x) h.0 (no_more_pass xs h.1)
    where
      by_tests : (b a : Bool) → (b ≡ true → a ≡ true) → length (filter g xs) ≤ length (filter f xs) → length (cond b (x ∷ filter g xs) (filter g xs)) ≤ length (cond a (x ∷ filter f xs) (filter f xs))
      by_tests true false k rest = absurd (false≢true (k refl))
      by_tests false false k rest = rest
      by_tests _ _ k rest = omega (arith, rest)

  -- fewer do, where something passes the first alone
  fewer_pass : (xs : List X) → Passes xs → Drops xs → length (filter g xs) < length (filter f xs)
  fewer_pass [] h d = absurd d
  fewer_pass (x ∷ xs) h d = by_tests (g x) refl (f x) refl h.0 (no_more_pass xs h.1) d (fewer_pass xs h.1)
    where
      by_tests : (b : Bool) → g x ≡ b → (a : Bool) → f x ≡ a → (b ≡ true → a ≡ true) → length (filter g xs) ≤ length (filter f xs) → ((f x ≡ true) × (g x ≡ false)) ⊎ Drops xs → (Drops xs → length (filter g xs) < length (filter f xs))
          → length (cond b (x ∷ filter g xs) (filter g xs)) < length (cond a (x ∷ filter f xs) (filter f xs))
      by_tests true gt a ft k rest (inl here) strict = absurd (both_ways (g x) here.1 gt)
      by_tests true gt true ft k rest (inr later) strict = (let s = strict later in omega (arith, s))
      by_tests true gt false ft k rest (inr later) strict = absurd (false≢true (k refl))
      by_tests false gt true ft k rest d strict = omega (arith, rest)
      by_tests false gt false ft k rest (inl here) strict = absurd (both_ways (f x) ft here.0)
      by_tests false gt false ft k rest (inr later) strict = strict later

  -- so it is where the first that a third test finds passes the one, and not the other
  drops_first : (h : X → Bool) (xs : List X) (y : X) (ys : List X) → filter h xs ≡ y ∷ ys → f y ≡ true → g y ≡ false → Drops xs
  drops_first h [] y ys is on off = absurd (None_not_Some (ap (λ zs. slice_get zs 0) is))
  drops_first h (x ∷ xs) y ys is on off = by_test (h x) is (λ e. drops_first h xs y ys e on off)
    where
      by_test : (a : Bool) → cond a (x ∷ filter h xs) (filter h xs) ≡ y ∷ ys → (filter h xs ≡ y ∷ ys → Drops xs) → ((f x ≡ true) × (g x ≡ false)) ⊎ Drops xs
      by_test true e rest = (let same : x ≡ y = Some_injective (ap (λ zs. slice_get zs 0) e) in inl (ap f same ∙ on, ap g same ∙ off))
      by_test false e rest = inr (rest e)

-- ---- some rows are published

module _ (r : Router) (n : ℕ) (some : 0 < n) (there : 0 < length (rows_due r)) (sorted : is_sorted prefix_cmp (r.table).control ≡ true) (in_order : is_sorted prefix_cmp (offered_hops r) ≡ true) where
  abbrev rows : List (Prefix × Entry)
  rows = take n (rows_due r)

  -- whether a row is due
  abbrev is_row_due : Prefix × Entry → Bool
  is_row_due x = has_other_hops r x.0 || not (has_row (r.table).published x)

  -- whether it is changed, before and after
  abbrev was : Prefix × Entry → Bool
  was x = not (has_row (r.table).published x)

  abbrev now : Prefix × Entry → Bool
  now x = not (has_row (with_rows rows (r.table).published) x)

  -- each of them is the chosen one
  all_in : AllIn rows (r.table).control
  all_in = all_in_take n (rows_due r) (r.table).control (all_in_filter is_row_due (r.table).control (r.table).control (all_in_self (r.table).control sorted))

  -- a chosen row that is among them is in force
  among : (x : Prefix × Entry) → row_of prefix_cmp x.0 (r.table).control ≡ Some x.1 → is_some (row_of prefix_cmp x.0 rows) ≡ true → now x ≡ false
  among x chosen is =
      ap (λ o. not (option_map_or (λ e. entry_eq e x.1) o false))
      (row_in_force x.0 rows (r.table).control (r.table).published all_in ∙ ap (λ b. if b then row_of prefix_cmp x.0 (r.table).control else row_of prefix_cmp x.0 (r.table).published) is ∙ chosen)
      ∙ ap not (entry_eq-refl x.1)

  -- another is as before
  beside : (x : Prefix × Entry) → is_some (row_of prefix_cmp x.0 rows) ≡ false → now x ≡ was x
  beside x is =
      ap (λ o. not (option_map_or (λ e. entry_eq e x.1) o false))
      (row_in_force x.0 rows (r.table).control (r.table).published all_in ∙ ap (λ b. if b then row_of prefix_cmp x.0 (r.table).control else row_of prefix_cmp x.0 (r.table).published) is)

  -- so what is changed then was changed before
  passes : (xs : List (Prefix × Entry)) → AllIn xs (r.table).control → Passes was now xs
  passes [] all = tt
  passes (x ∷ xs) all = (λ h. by_row (is_some (row_of prefix_cmp x.0 rows)) refl h, passes xs all.1)
    where
      by_row : (b : Bool) → is_some (row_of prefix_cmp x.0 rows) ≡ b → now x ≡ true → was x ≡ true
      by_row true is h = absurd (both_ways (now x) (among x all.0 is) h)
      by_row false is h = sym (beside x is) ∙ h

  -- ---- and next hops beside them

  -- the next hops that are put in force
  abbrev hops : List (Prefix × List NextHop)
  hops = hops_beside rows (offered_hops r)

  -- whether other next hops are offered than are in force, before and after
  abbrev hops_was : Prefix × List NextHop → Bool
  hops_was x = not (has_hops (r.hops).published x)

  abbrev hops_now : Prefix × List NextHop → Bool
  hops_now x = not (has_hops (with_rows hops (hops_apart rows (r.hops).published)) x)

  -- those of a row that is among them are in force
  hops_among : (x : Prefix × List NextHop) → row_of prefix_cmp x.0 (offered_hops r) ≡ Some x.1 → is_some (row_of prefix_cmp x.0 rows) ≡ true → hops_now x ≡ false
  hops_among x offered is =
      ap (λ o. not (option_map_or (λ hs. hops_eq hs x.1) o false)) (hops_in_force x.0 rows (offered_hops r) (r.hops).published in_order ∙ ap (λ b. if b then row_of prefix_cmp x.0 (offered_hops r) else row_of prefix_cmp x.0 (r.hops).published) is ∙ offered)
      ∙ ap not (hops_eq-refl x.1)

  -- others are as before
  hops_as_before : (x : Prefix × List NextHop) → is_some (row_of prefix_cmp x.0 rows) ≡ false → hops_now x ≡ hops_was x
  hops_as_before x is = ap (λ o. not (option_map_or (λ hs. hops_eq hs x.1) o false)) (hops_in_force x.0 rows (offered_hops r) (r.hops).published in_order ∙ ap (λ b. if b then row_of prefix_cmp x.0 (offered_hops r) else row_of prefix_cmp x.0 (r.hops).published) is)

  -- so where others are offered then they were before
  hops_pass : (xs : List (Prefix × List NextHop)) → AllIn xs (offered_hops r) → Passes hops_was hops_now xs
  hops_pass [] all = tt
  hops_pass (x ∷ xs) all = (λ h. by_row (is_some (row_of prefix_cmp x.0 rows)) refl h, hops_pass xs all.1)
    where
      by_row : (b : Bool) → is_some (row_of prefix_cmp x.0 rows) ≡ b → hops_now x ≡ true → hops_was x ≡ true
      by_row true is h = absurd (both_ways (hops_now x) (hops_among x all.0 is) h)
      by_row false is h = sym (hops_as_before x is) ∙ h

  -- where others were offered for the prefix of a row that is among them, that is one less
  hops_drop : (p : Prefix) (xs : List (Prefix × List NextHop)) → AllIn xs (offered_hops r) → is_some (row_of prefix_cmp p (filter hops_was xs)) ≡ true → is_some (row_of prefix_cmp p rows) ≡ true → Drops hops_was hops_now xs
  hops_drop p [] all found is = absurd (false≢true found)
  hops_drop p (x ∷ xs) all found is = by_test (hops_was x) refl (λ f. hops_drop p xs all.1 f is) found
    where
      by_key : hops_was x ≡ true → (is_some (row_of prefix_cmp p (filter hops_was xs)) ≡ true → Drops hops_was hops_now xs) → (b : Bool) → prefix_eq p x.0 ≡ b
          → is_some (cond b (Some x.1) (row_of prefix_cmp p (filter hops_was xs))) ≡ true → ((hops_was x ≡ true) × (hops_now x ≡ false)) ⊎ Drops hops_was hops_now xs
      by_key on rest true same f = inl (on, hops_among x all.0 (ap (λ q. is_some (row_of prefix_cmp q rows)) (sym (prefix_same p x.0 same)) ∙ is))
      by_key on rest false apart f = inr (rest f)

      by_test : (b : Bool) → hops_was x ≡ b → (is_some (row_of prefix_cmp p (filter hops_was xs)) ≡ true → Drops hops_was hops_now xs)
          → is_some (row_of prefix_cmp p (cond b (x ∷ filter hops_was xs) (filter hops_was xs))) ≡ true → ((hops_was x ≡ true) × (hops_now x ≡ false)) ⊎ Drops hops_was hops_now xs
      by_test true on rest f = by_key on rest (prefix_eq p x.0) refl f
      by_test false off rest f = inr (rest f)

  -- the first row that is due is among them
  first_among : (m : ℕ) → 0 < m → (y : Prefix × Entry) (ys : List (Prefix × Entry)) → is_some (row_of prefix_cmp y.0 (take m (y ∷ ys))) ≡ true
  first_among zero lt y ys = absurd (omega (arith, lt))
  first_among (suc m) lt y ys = ap (λ b. is_some (cond b (Some y.1) (row_of prefix_cmp y.0 (take m ys)))) (prefix_itself y.0)

  -- fewer rows are changed, or other next hops are offered for fewer
  pub some_less : length (changed_rows (router_publishing_some n r).table) + length (changed_hops (router_publishing_some n r)) < length (changed_rows r.table) + length (changed_hops r)
  some_less = by_rows (rows_due r) refl there
    where
      rows_fewer : length (filter now (r.table).control) ≤ length (filter was (r.table).control)
      rows_fewer = no_more_pass was now (r.table).control (passes (r.table).control (all_in_self (r.table).control sorted))

      hops_fewer : length (filter hops_now (offered_hops r)) ≤ length (filter hops_was (offered_hops r))
      hops_fewer = no_more_pass hops_was hops_now (offered_hops r) (hops_pass (offered_hops r) (all_in_self (offered_hops r) in_order))

      by_cause : (y : Prefix × Entry) (ys : List (Prefix × Entry)) → filter is_row_due (r.table).control ≡ y ∷ ys → row_of prefix_cmp y.0 (r.table).control ≡ Some y.1 → is_some (row_of prefix_cmp y.0 rows) ≡ true
          → (b : Bool) → has_other_hops r y.0 ≡ b → (b || was y) ≡ true → length (filter now (r.table).control) + length (filter hops_now (offered_hops r)) < length (filter was (r.table).control) + length (filter hops_was (offered_hops r))
      by_cause y ys is chosen in_it true others due =
          let less = fewer_pass hops_was hops_now (offered_hops r) (hops_pass (offered_hops r) (all_in_self (offered_hops r) in_order)) (hops_drop y.0 (offered_hops r) (all_in_self (offered_hops r) in_order) others in_it) in
          omega (arith, rows_fewer, less)
      by_cause y ys is chosen in_it false none due =
          let less = fewer_pass was now (r.table).control (passes (r.table).control (all_in_self (r.table).control sorted)) (drops_first was now is_row_due (r.table).control y ys is due (among y chosen in_it)) in
          omega (arith, hops_fewer, less)

      by_rows : (xs : List (Prefix × Entry)) → filter is_row_due (r.table).control ≡ xs → 0 < length xs → length (filter now (r.table).control) + length (filter hops_now (offered_hops r)) < length (filter was (r.table).control) + length (filter hops_was (offered_hops r))
      by_rows [] is lt = absurd (omega (arith, lt))
      by_rows (y ∷ ys) is lt =
          let all : AllIn (y ∷ ys) (r.table).control = subst (λ zs. AllIn zs (r.table).control) is (all_in_filter is_row_due (r.table).control (r.table).control (all_in_self (r.table).control sorted)) in
          let in_it : is_some (row_of prefix_cmp y.0 rows) ≡ true = ap (λ zs. is_some (row_of prefix_cmp y.0 (take n zs))) is ∙ first_among n some y ys in
          by_cause y ys is all.0 in_it (has_other_hops r y.0) refl (first_passes is_row_due (r.table).control y ys is)

-- a router that publishes some of its rows has less
pub some_published_less : (p : Prefix) (r : Router) → RouterKept p r → (n : ℕ) → 0 < n → n < length (rows_due r) → dues_of (router_publishing_some n r) < dues_of r
some_published_less p r R n some fewer =
    let less = some_less r n some (omega (arith, some, fewer)) (control_sorted r R.control_is R.sorted) (offered_sorted (r.hops).offer (session_at r.ports) r.machines R.sorted) in
    omega (arith, less)

-- ---- a prefix is forgotten

-- of rows without those of a prefix no more pass a test, if it is the same of all others
no_more_without : {X : Type 0} (p : Prefix) (now was : Prefix × X → Bool) → ((x : Prefix × X) → prefix_eq p x.0 ≡ false → now x ≡ was x) → (xs : List (Prefix × X)) → length (filter now (without p xs)) ≤ length (filter was xs)
no_more_without p now was same [] = omega arith
no_more_without {X} p now was same (x ∷ xs) = by_key (prefix_eq p x.0) refl (no_more_without p now was same xs)
  where
    kept : (a : Bool) → length (filter now (without p xs)) ≤ length (filter was xs) → length (cond a (x ∷ filter now (without p xs)) (filter now (without p xs))) ≤ length (cond a (x ∷ filter was xs) (filter was xs))
    kept true rest = omega (arith, rest)
    kept false rest = rest

    gone : (a : Bool) → length (filter now (without p xs)) ≤ length (filter was xs) → length (filter now (without p xs)) ≤ length (cond a (x ∷ filter was xs) (filter was xs))
    gone true rest = omega (arith, rest)
    gone false rest = rest

    by_key : (b : Bool) → prefix_eq p x.0 ≡ b → length (filter now (without p xs)) ≤ length (filter was xs) → length (filter now (cond (not b) (x ∷ without p xs) (without p xs))) ≤ length (cond (was x) (x ∷ filter was xs) (filter was xs))
    by_key true here rest = gone (was x) rest
    by_key false apart rest = subst (λ b. length (cond b (x ∷ filter now (without p xs)) (filter now (without p xs))) ≤ length (cond (was x) (x ∷ filter was xs) (filter was xs))) (sym (same x apart)) (kept (was x) rest)

-- what is offered follows the machines that are left
hops_without : (p : Prefix) (o : Offer) (session : ℕ → ℕ) (ms : List (Prefix × Machine)) → hops_by_prefix o session (without p ms) ≡ without p (hops_by_prefix o session ms)
hops_without p One session ms = refl
hops_without p (Equal most) session ms = map-without (λ m. hops_of (Equal most) session m) p ms
hops_without p (Feasible most) session ms = map-without (λ m. hops_of (Feasible most) session m) p ms

-- a router that forgets a prefix has less
pub forgotten_less : (p : Prefix) (r : Router) → RouterKept p r → (m : Machine) → row_of prefix_cmp p r.machines ≡ Some m → dues_of (router_forgetting p r) < dues_of r
forgotten_less p r R m is =
    let found : is_some (row_of prefix_cmp p r.machines) ≡ true = ap is_some is in
    let machines = length_without prefix_cmp prefix_cmp_total p r.machines (to_T _ R.sorted) in
    let one : 1 + length (without p r.machines) ≡ length r.machines = ap (λ b. cond b 1 0 + length (without p r.machines)) (sym found) ∙ machines in
    let rows = no_more_without p (λ x. not (has_row (without p (r.table).published) x)) (λ x. not (has_row (r.table).published x))
    (λ x apart. ap (λ o. not (option_map_or (λ e. entry_eq e x.1) o false)) (row_beside x.0 p (r.table).published (apart_back p x.0 apart))) (r.table).control in
    let hops = no_more_without p (λ x. not (has_hops (without p (r.hops).published) x)) (λ x. not (has_hops (r.hops).published x))
    (λ x apart. ap (λ o. not (option_map_or (λ hs. hops_eq hs x.1) o false)) (row_beside x.0 p (r.hops).published (apart_back p x.0 apart))) (offered_hops r) in
    let left = ap (λ xs. length (filter (λ x. not (has_hops (without p (r.hops).published) x)) xs)) (hops_without p (r.hops).offer (session_at r.ports) r.machines) in
    omega (arith, one, rows, hops, left)
