-- The measure of all prefixes together: a first number, then what counts for all, place by place, and then the loads of all.
use Rattle.std.proofs.Common.{refl, sym, ap, subst, arith, ◌≡◌, ℕ, zero, suc, ◌<◌, ◌≤◌, Bool, true, false, ◌||◌, List, [], ◌∷◌}
use Rattle.no_packet_loops.proofs.Common.{list_any, Prefix, prefix_eq, State, Topology}
use Rattle.no_packet_loops.proofs.Machines.{prefix_same, prefix_itself}
use Rattle.coming_to_rest.proofs.Order.{Falls, NoRise, at_place, at_first, at_second}
use Rattle.coming_to_rest.proofs.{Measure.weight, Measure.loads, Measure.top, Takes.MessageEffect, Takes.falls_at, Takes.load_falls, Known.IsOf, Sums.sum_list, Sums.list_less, Sums.list_strict}

-- ---- lists of prefixes

-- a prefix of the list is one of the list with one more
pub of_more : (p q : Prefix) (ps : List Prefix) → IsOf ps p → IsOf (q ∷ ps) p
of_more p q ps h = go (prefix_eq p q)
  where
    go : (b : Bool) → (b || list_any (prefix_eq p) ps) ≡ true
    go true = refl
    go false = h

pub of_first : (p : Prefix) (ps : List Prefix) → IsOf (p ∷ ps) p
of_first p ps = ap (λ b. b || list_any (prefix_eq p) ps) (prefix_itself p)

-- what holds of the prefix and of all others holds of each
pub each : (P : Prefix → Type 0) (k : Prefix) → P k → ((p : Prefix) → prefix_eq p k ≡ false → P p) → (p : Prefix) → P p
each P k here beside p = by_prefix (prefix_eq p k) refl
  where
    by_prefix : (b : Bool) → prefix_eq p k ≡ b → P p
    by_prefix true is = subst P (sym (prefix_same p k is)) here
    by_prefix false is = beside p is

-- a sum over prefixes of parts that are no greater is no greater
pub prefixes_less : (ps : List Prefix) (g f : Prefix → ℕ) → ((p : Prefix) → IsOf ps p → g p ≤ f p) → sum_list ps g ≤ sum_list ps f
prefixes_less [] g f h = omega arith
prefixes_less (x ∷ xs) g f h = omega (arith, h x (of_first x xs), prefixes_less xs g f (λ p there. h p (of_more p x xs there)))

-- where the part of one prefix is less, and no other is greater, the sum is less
pub prefixes_fall : (ps : List Prefix) (g f : Prefix → ℕ) (k : Prefix) → IsOf ps k → g k < f k → ((p : Prefix) → prefix_eq p k ≡ false → g p ≤ f p) → sum_list ps g < sum_list ps f
prefixes_fall ps g f k there less others = list_strict (prefix_eq k) ps g f (each (λ p. g p ≤ f p) k (omega (arith, less)) others) (λ p is. subst (λ (q : Prefix). g q < f q) (prefix_same k p is) less) there

-- ---- the measure

module _ (t : Topology) (n b : ℕ) where
  -- no more counts in the new state than in the old one, and the load is no greater
  abbrev pub CountsLess : State → State → Type 0
  CountsLess old new = ((u : ℕ) → weight t n b new u ≤ weight t n b old u) × (loads t n b new ≤ loads t n b old)

  -- the places, of a state for each prefix
  abbrev pub sum_places : List Prefix → ℕ → (Prefix → State) → ℕ → ℕ
  sum_places ps first s zero = first
  sum_places ps first s (suc u) = sum_list ps (λ p. weight t n b (s p) u)

  abbrev pub sum_loads : List Prefix → (Prefix → State) → ℕ
  sum_loads ps s = sum_list ps (λ p. loads t n b (s p))

  module _ (ps : List Prefix) (first dues first' dues' : ℕ) (s s' : Prefix → State) (fewer : first' ≤ first) where
    -- the measure falls
    abbrev AllFall : Type 0
    AllFall = Falls top (sum_places ps first s) (sum_loads ps s) dues (sum_places ps first' s') (sum_loads ps s') dues'

    -- nothing rises, where no more counts of any prefix
    no_rise : ((u : ℕ) (p : Prefix) → IsOf ps p → weight t n b (s' p) u ≤ weight t n b (s p) u) → NoRise (sum_places ps first' s') (sum_places ps first s)
    no_rise less zero = fewer
    no_rise less (suc u) = prefixes_less ps (λ p. weight t n b (s' p) u) (λ p. weight t n b (s p) u) (less u)

    -- where no more counts of any prefix, and no load is greater, the dues decide
    pub dues_fall : ((p : Prefix) → IsOf ps p → CountsLess (s p) (s' p)) → dues' < dues → AllFall
    dues_fall less d = at_second (no_rise (λ u p there. (less p there).0 u)) (prefixes_less ps (λ p. loads t n b (s' p)) (λ p. loads t n b (s p)) (λ p there. (less p there).1)) d

    -- where a message of one prefix has such an effect, and no more counts of the others
    pub effect_falls : (k : Prefix) → IsOf ps k → ((p : Prefix) → prefix_eq p k ≡ false → CountsLess (s p) (s' p)) → MessageEffect t n b (s k) (s' k) → AllFall
    effect_falls k there others (falls_at u bound less here) = at_place (suc u) (omega (arith, bound)) (lower, prefixes_fall ps (λ p. weight t n b (s' p) u) (λ p. weight t n b (s p) u) k there here (λ p is. (others p is).0 u))
      where
        lower : (j : ℕ) → j < suc u → sum_places ps first' s' j ≤ sum_places ps first s j
        lower zero l = fewer
        lower (suc j) l = list_less ps (λ p. weight t n b (s' p) j) (λ p. weight t n b (s p) j) (each (λ p. weight t n b (s' p) j ≤ weight t n b (s p) j) k (less j (omega (arith, l))) (λ p is. (others p is).0 j))
    effect_falls k there others (load_falls less here) = at_first
        (no_rise (λ u p of. each (λ q. weight t n b (s' q) u ≤ weight t n b (s q) u) k (less u) (λ q is. (others q is).0 u) p))
        (prefixes_fall ps (λ p. loads t n b (s' p)) (λ p. loads t n b (s p)) k there here (λ p is. (others p is).1))
