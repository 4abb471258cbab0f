-- Distances by way of neighbours: the least of them, and who may be taken at it.
use Rattle.std.proofs.Common.{◌≡◌, ◌≢◌, ◌⊎◌, ℕ, zero, suc, ◌+◌, ◌<◌, ◌≤◌, min, Bool, true, false, ◌&&◌, List, [], ◌∷◌, ◌++◌, length, is_some, Option, Some, None, refl, ap, sym, inl, inr, arith, subst, ◌∙◌, eqb-true, eq-eqb, ltb-true, lt-ltb, slice_get, ◌==◌, nat_lt, if◌then◌else◌}
use Rattle.network_model.proofs.Common.{list_any, position_from, and_parts, eqb-false, cases_lt, and_from, both_ways, false≢true, same_Some, none-some, infinity, plus, distance, least, is_feasible, condition_holds, is_feasible_at, kept_or_first, chosen_successor, via_successor, changed_at, at_home, home_ways, least_bounded}
use Rattle.network_model.specs.declared.machine.Neighbour.{Neighbour}
use Rattle.machine_laws.specs.Laws.{IsSoundPort, test_at}
use Rattle.machine_laws.proofs.Lists.{list_any_nowhere, position_passes, position_found, append_each}

-- a sum is below infinity, or infinity
pub plus_cases : (a c : ℕ) → ((plus a c ≡ a + c) × (a + c < infinity)) ⊎ (plus a c ≡ infinity)
plus_cases a c = go (nat_lt (a + c) infinity) refl
  where
    go : (b : Bool) → nat_lt (a + c) infinity ≡ b → (((if b then a + c else infinity) ≡ a + c) × (a + c < infinity)) ⊎ ((if b then a + c else infinity) ≡ infinity)
    go true t = inl (refl, ltb-true (a + c) infinity t)
    go false t = inr refl

-- a distance below infinity is what a neighbour that is up reported, plus the cost; every other is infinity
pub distance_cases : (n : Neighbour) → ((n.up ≡ true) × (distance n ≡ n.reported + n.cost) × (distance n < infinity)) ⊎ (distance n ≡ infinity)
distance_cases n = go n.up refl (plus_cases n.reported n.cost)
  where
    go : (b : Bool) → n.up ≡ b → ((plus n.reported n.cost ≡ n.reported + n.cost) × (n.reported + n.cost < infinity)) ⊎ (plus n.reported n.cost ≡ infinity)
        → ((n.up ≡ true) × ((if b then plus n.reported n.cost else infinity) ≡ n.reported + n.cost) × ((if b then plus n.reported n.cost else infinity) < infinity)) ⊎ ((if b then plus n.reported n.cost else infinity) ≡ infinity)
    go true u (inl (e, l)) = inl (u, e, omega (arith, e, l))
    go true u (inr e) = inr e
    go false u c = inr refl

-- infinity plus a cost is infinity
plus_far : (c : ℕ) → plus infinity c ≡ infinity
plus_far c = go (plus_cases infinity c)
  where
    go : ((plus infinity c ≡ infinity + c) × (infinity + c < infinity)) ⊎ (plus infinity c ≡ infinity) → plus infinity c ≡ infinity
    go (inl (e, l)) = absurd (omega (arith, l))
    go (inr e) = e

-- no distance is above infinity
pub distance_bounded : (n : Neighbour) → distance n ≤ infinity
distance_bounded n = go (distance_cases n)
  where
    go : ((n.up ≡ true) × (distance n ≡ n.reported + n.cost) × (distance n < infinity)) ⊎ (distance n ≡ infinity) → distance n ≤ infinity
    go (inl (u, e, l)) = omega (arith, l)
    go (inr e) = omega (arith, e)

-- the least distance is at most that of each neighbour
pub least_below : (ns : List Neighbour) (p : ℕ) (n : Neighbour) → slice_get ns p ≡ Some n → least ns ≤ distance n
least_below [] p n h = absurd (none-some n h)
least_below (x ∷ xs) zero n h = subst (λ y. least (x ∷ xs) ≤ distance y) (same_Some x n h) (omega arith)
least_below (x ∷ xs) (suc p) n h = omega (arith, least_below xs p n h)

-- some neighbour is at distance d
Attains : List Neighbour → ℕ → Type 0
Attains ns d = (p : ℕ) × (n : Neighbour) × (slice_get ns p ≡ Some n) × (distance n ≡ d)

-- the least distance is infinity, or some neighbour is at it
least_attained : (ns : List Neighbour) → (least ns ≡ infinity) ⊎ Attains ns (least ns)
unfolding Attains
least_attained [] = inl refl
least_attained (x ∷ xs) = go (cases_lt (least xs) (distance x)) (least_attained xs)
  where
    go : ((least xs < distance x) ⊎ (distance x ≤ least xs)) → (least xs ≡ infinity) ⊎ Attains xs (least xs) → (least (x ∷ xs) ≡ infinity) ⊎ Attains (x ∷ xs) (least (x ∷ xs))
    go (inl l) (inl e) = absurd (omega (arith, distance_bounded x, l, e))
    go (inl l) (inr (p, n, at, e)) = inr (suc p, n, at, omega (arith, l, e))
    go (inr l) d = inr (zero, x, refl, omega (arith, l))

-- every port is sound
abbrev pub AllSound : List Neighbour → Type 0
AllSound ns = (p : ℕ) (n : Neighbour) → slice_get ns p ≡ Some n → IsSoundPort n

-- the neighbour at port p may be taken: it is up, at the least distance, and reported less than the feasible distance
pub record IsFeasibleAt (fd : ℕ) (ns : List Neighbour) (p : ℕ) : Type 0 where
  pub neighbour : Neighbour
  pub at : slice_get ns p ≡ Some neighbour
  pub up : neighbour.up ≡ true
  pub attains : distance neighbour ≡ least ns
  pub below : neighbour.reported < fd

-- a neighbour that may be taken is up, at distance d, and reported less than the feasible distance
feasible_parts : (fd d : ℕ) (n : Neighbour) → is_feasible fd d n ≡ true → (n.up ≡ true) × (distance n ≡ d) × (n.reported < fd)
feasible_parts fd d n h =
    let both = and_parts (n.up && (distance n == d)) (nat_lt n.reported fd) h in
    let first = and_parts n.up (distance n == d) both.0 in
    (first.0, eqb-true (distance n) d first.1, ltb-true n.reported fd both.1)

-- a neighbour that is up, at distance d, and reported less than the feasible distance may be taken
feasible_from : (fd d : ℕ) (n : Neighbour) → n.up ≡ true → distance n ≡ d → n.reported < fd → is_feasible fd d n ≡ true
feasible_from fd d n u e l = and_from (n.up && (distance n == d)) (nat_lt n.reported fd) (and_from n.up (distance n == d) u (eq-eqb (distance n) d e)) (lt-ltb n.reported fd l)

-- a neighbour that is up, at distance d, and may not be taken reported no less than the feasible distance
not_feasible : (fd d : ℕ) (n : Neighbour) → is_feasible fd d n ≡ false → n.up ≡ true → distance n ≡ d → fd ≤ n.reported
not_feasible fd d n h u e = go (cases_lt n.reported fd)
  where
    go : (n.reported < fd) ⊎ (fd ≤ n.reported) → fd ≤ n.reported
    go (inl l) = absurd (both_ways (is_feasible fd d n) h (feasible_from fd d n u e l))
    go (inr l) = l

-- where the condition fails, the least distance is above the feasible one
pub condition_fails : (fd : ℕ) (ns : List Neighbour) → AllSound ns → fd ≤ infinity → condition_holds fd ns ≡ false → fd < least ns
unfolding Attains
condition_fails fd ns sound bound h = go (least ns == infinity) refl h (least_attained ns)
  where
    none_passes : list_any (is_feasible fd (least ns)) ns ≡ false → (p : ℕ) (n : Neighbour) → slice_get ns p ≡ Some n → distance n ≡ least ns
        → ((n.up ≡ true) × (distance n ≡ n.reported + n.cost) × (distance n < infinity)) ⊎ (distance n ≡ infinity) → (least ns ≡ infinity → ⊥) → fd < least ns
    none_passes f p n at e (inl (u, d, l)) far =
        let under : fd ≤ n.reported = not_feasible fd (least ns) n (list_any_nowhere (is_feasible fd (least ns)) ns f p n at) u e in
        let some : 0 < n.cost = (sound p n at).costs in
        omega (arith, e, d, under, some)
    none_passes f p n at e (inr i) far = absurd (far (sym e ∙ i))

    go : (b : Bool) → (least ns == infinity) ≡ b → (if b then fd == infinity else list_any (is_feasible fd (least ns)) ns) ≡ false → (least ns ≡ infinity) ⊎ Attains ns (least ns) → fd < least ns
    go true t f a =
        let e : least ns ≡ infinity = eqb-true (least ns) infinity t in
        let ne : fd ≢ infinity = eqb-false fd infinity f in
        omega (arith, e, ne, bound)
    go false t f (inl e) = absurd (eqb-false (least ns) infinity t e)
    go false t f (inr (p, n, at, e)) = none_passes f p n at e (distance_cases n) (eqb-false (least ns) infinity t)

-- the neighbour at a port that passes the test may be taken
feasible_found : (fd : ℕ) (ns : List Neighbour) (p : ℕ) (n : Neighbour) → slice_get ns p ≡ Some n → is_feasible fd (least ns) n ≡ true → IsFeasibleAt fd ns p
feasible_found fd ns p n at t =
    let parts = feasible_parts fd (least ns) n t in
    record { neighbour = n; at = at; up = parts.0; attains = parts.1; below = parts.2 }

-- the lowest port that passes the test may be taken
first_feasible : (fd : ℕ) (ns : List Neighbour) (p : ℕ) → position_from (is_feasible fd (least ns)) 0 ns ≡ Some p → IsFeasibleAt fd ns p
first_feasible fd ns p h =
    let (j, n, e, at, t) = position_passes (is_feasible fd (least ns)) 0 ns p h in
    subst (λ k. IsFeasibleAt fd ns k) (let f : j ≡ p = omega (arith, e) in f) (feasible_found fd ns j n at t)

-- a port that passes the test may be taken
kept_feasible : (fd : ℕ) (ns : List Neighbour) (q : ℕ) → is_feasible_at fd ns q ≡ true → IsFeasibleAt fd ns q
kept_feasible fd ns q h = go (slice_get ns q) refl
  where
    go : (o : Option Neighbour) → slice_get ns q ≡ o → IsFeasibleAt fd ns q
    go None e = absurd (false≢true (rw e at h))
    go (Some n) e = feasible_found fd ns q n e (rw e at h)

-- the present successor, or else the lowest port, may be taken where it is chosen
kept_or_first_feasible : (fd : ℕ) (ns : List Neighbour) (s : Option ℕ) (p : ℕ) → kept_or_first fd ns s ≡ Some p → IsFeasibleAt fd ns p
kept_or_first_feasible fd ns None p h = first_feasible fd ns p h
kept_or_first_feasible fd ns (Some q) p h = go (is_feasible_at fd ns q) refl h
  where
    go : (b : Bool) → is_feasible_at fd ns q ≡ b → (if b then Some q else position_from (is_feasible fd (least ns)) 0 ns) ≡ Some p → IsFeasibleAt fd ns p
    go true t e = subst (λ k. IsFeasibleAt fd ns k) (same_Some q p e) (kept_feasible fd ns q t)
    go false t e = first_feasible fd ns p e

-- a port that is chosen may be taken, and the least distance is below infinity
pub chosen_feasible : (fd : ℕ) (ns : List Neighbour) (s : Option ℕ) (p : ℕ) → chosen_successor fd ns s ≡ Some p → (least ns < infinity) × IsFeasibleAt fd ns p
chosen_feasible fd ns s p h = go (least ns == infinity) refl h
  where
    go : (b : Bool) → (least ns == infinity) ≡ b → (if b then None else kept_or_first fd ns s) ≡ Some p → (least ns < infinity) × IsFeasibleAt fd ns p
    go true t e = absurd (none-some p e)
    go false t e =
        let ne : least ns ≢ infinity = eqb-false (least ns) infinity t in
        (omega (arith, ne, least_bounded ns), kept_or_first_feasible fd ns s p e)

-- where the condition holds and no port is chosen, the least distance and the feasible one are infinity
pub chosen_none : (fd : ℕ) (ns : List Neighbour) (s : Option ℕ) → condition_holds fd ns ≡ true → chosen_successor fd ns s ≡ None → (least ns ≡ infinity) × (fd ≡ infinity)
chosen_none fd ns s c h = go (least ns == infinity) refl c h
  where
    no_first : (o : Option ℕ) → list_any (is_feasible fd (least ns)) ns ≡ true → kept_or_first fd ns o ≡ None → ⊥
    no_first None t e = position_found (is_feasible fd (least ns)) 0 ns t e
    no_first (Some q) t e = keeps (is_feasible_at fd ns q) e
      where
        keeps : (b : Bool) → (if b then Some q else position_from (is_feasible fd (least ns)) 0 ns) ≡ None → ⊥
        keeps true k = none-some q (sym k)
        keeps false k = position_found (is_feasible fd (least ns)) 0 ns t k

    go : (b : Bool) → (least ns == infinity) ≡ b → (if b then fd == infinity else list_any (is_feasible fd (least ns)) ns) ≡ true → (if b then None else kept_or_first fd ns s) ≡ None
        → (least ns ≡ infinity) × (fd ≡ infinity)
    go true t f e = (eqb-true (least ns) infinity t, eqb-true fd infinity f)
    go false t f e = absurd (no_first s f e)

-- the distance by way of the successor is at least the least one, and at most infinity
pub via_range : (ns : List Neighbour) (s : Option ℕ) → (least ns ≤ via_successor ns s) × (via_successor ns s ≤ infinity)
via_range ns None = (least_bounded ns, omega arith)
via_range ns (Some q) = go (slice_get ns q) refl
  where
    go : (o : Option Neighbour) → slice_get ns q ≡ o → (least ns ≤ via_successor ns (Some q)) × (via_successor ns (Some q) ≤ infinity)
    go None e = rw e (least_bounded ns, omega arith)
    go (Some n) e = rw e (least_below ns q n e, distance_bounded n)

-- where the least distance is below infinity, a neighbour that may be taken reported less than it
pub feasible_below_least : (fd : ℕ) (ns : List Neighbour) (p : ℕ) → AllSound ns → least ns < infinity → (f : IsFeasibleAt fd ns p) → f.neighbour.reported < least ns
feasible_below_least fd ns p sound l f = go (distance_cases f.neighbour)
  where
    go : ((f.neighbour.up ≡ true) × (distance f.neighbour ≡ f.neighbour.reported + f.neighbour.cost) × (distance f.neighbour < infinity)) ⊎ (distance f.neighbour ≡ infinity) → f.neighbour.reported < least ns
    go (inl (u, d, below)) =
        let some : 0 < f.neighbour.cost = (sound p f.neighbour f.at).costs in
        omega (arith, d, f.attains, some)
    go (inr i) = absurd (omega (arith, f.attains, i, l))

-- a port that comes up, and has reported nothing yet, leaves the least distance
pub least_came_up : (q cost : ℕ) (ns : List Neighbour) → test_at (λ n. n.up) (slice_get ns q) ≡ false → least (changed_at q (λ n. record { up = true; cost = cost; reported = infinity }) ns) ≡ least ns
least_came_up q cost [] down = refl
least_came_up zero cost (n ∷ ns) down = ap (λ d. min d (least ns)) (plus_far cost ∙ sym (rw down))
least_came_up (suc q) cost (n ∷ ns) down = ap (λ d. min (distance n) d) (least_came_up q cost ns down)

-- ---- the ports and the attachment

-- an attachment is a sound way
at_home_sound : (a : Option ℕ) → ((c : ℕ) → a ≡ Some c → 0 < c) → AllSound (home_ways a)
at_home_sound (Some c) f zero n e = subst IsSoundPort (same_Some (at_home c) n e) (record { costs = f c refl; bounded = omega arith })
at_home_sound _ f _ n e = absurd (none-some n e)

pub ways_sound : (ns : List Neighbour) (a : Option ℕ) → AllSound ns → ((c : ℕ) → a ≡ Some c → 0 < c) → AllSound (ns ++ home_ways a)
ways_sound ns a sound f = append_each IsSoundPort ns (home_ways a) sound (at_home_sound a f)

-- a way is a port, or has the number of the attachment
pub way_within : (ns : List Neighbour) (a : Option ℕ) (p : ℕ) (n : Neighbour) → slice_get (ns ++ home_ways a) p ≡ Some n → p ≤ length ns
way_within [] (Some c) zero n e = omega arith
way_within (x ∷ ns) a zero n e = omega arith
way_within (x ∷ ns) a (suc p) n e = omega (arith, way_within ns a p n e)
way_within _ _ _ n e = absurd (none-some n e)

-- a way of that number is the attachment, which is there
pub way_last : (ns : List Neighbour) (a : Option ℕ) (n : Neighbour) → slice_get (ns ++ home_ways a) (length ns) ≡ Some n → is_some a ≡ true
way_last [] None n e = absurd (none-some n e)
way_last [] (Some c) n e = refl
way_last (x ∷ ns) a n e = way_last ns a n e

-- no way is free
pub least_positive : (ns : List Neighbour) → AllSound ns → 0 < least ns
least_positive [] sound = omega arith
least_positive (n ∷ ns) sound = go (distance_cases n) (least_positive ns (λ p. sound (suc p)))
  where
    go : ((n.up ≡ true) × (distance n ≡ n.reported + n.cost) × (distance n < infinity)) ⊎ (distance n ≡ infinity) → 0 < least ns → 0 < least (n ∷ ns)
    go (inl (u, d, l)) rest = omega (arith, rest, d, (sound 0 n refl).costs)
    go (inr e) rest = omega (arith, rest, e)
