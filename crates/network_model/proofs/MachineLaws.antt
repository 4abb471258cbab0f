-- The least distance: never above infinity, and infinity where nobody is up and no way may be taken.
use Rattle.std.proofs.Common.{refl, sym, ap, ◌∙◌, arith, ◌≡◌, ℕ, ◌+◌, ◌≤◌, min, Bool, true, false, ◌==◌, nat_lt, if◌then◌else◌, List, [], ◌∷◌, ◌++◌, Option, Some, None, ◌<◌}
use Rattle.std.specs.List.{list_any}
use Rattle.metric.specs.Distance.{infinity, plus}
use Rattle.network_model.specs.declared.machine.Neighbour.{Neighbour}
use Rattle.network_model.specs.Machine.{Machine, at_home, home_ways, ways, distance, least, condition_holds, is_feasible}
use Rattle.std.proofs.lemmas.Bool.{true≢false, eq-eqb, eqb-true, ltb-true, lt-ltb, or_parts, and_from}

-- the least distance is not above infinity
pub least_bounded : (ns : List Neighbour) → least ns ≤ infinity
least_bounded [] = omega arith
least_bounded (n ∷ ns) = omega (arith, least_bounded ns)

-- no distance is above infinity
pub distance-bounded : (n : Neighbour) → distance n ≤ infinity
distance-bounded n = by_up n.up (nat_lt (n.reported + n.cost) infinity) refl
  where
    by_up : (b less : Bool) → nat_lt (n.reported + n.cost) infinity ≡ less → (if b then (if less then n.reported + n.cost else infinity) else infinity) ≤ infinity
    by_up true true t = omega (arith, ltb-true _ _ t)
    by_up true false t = omega arith
    by_up false less t = omega arith

-- ---- nobody is up

abbrev pub IsNoneUp : List Neighbour → Type 0
IsNoneUp ns = list_any (λ n. n.up) ns ≡ false

distance-down : (n : Neighbour) → n.up ≡ false → distance n ≡ infinity
distance-down n down = ap (λ b. if b then plus n.reported n.cost else infinity) down

-- then every distance is infinity
pub least-none_up : (ns : List Neighbour) → IsNoneUp ns → least ns ≡ infinity
least-none_up [] none = refl
least-none_up (n ∷ ns) none =
    let here : distance n ≡ infinity = distance-down n (or_parts n.up (list_any (λ m. m.up) ns) none).0 in
    let onward : least ns ≡ infinity = least-none_up ns (or_parts n.up (list_any (λ m. m.up) ns) none).1 in
    omega (arith, here, onward)

-- ---- an attachment besides

-- the least distance of neighbours and of more of them
pub least-append : (ns ms : List Neighbour) → least (ns ++ ms) ≡ min (least ns) (least ms)
least-append [] ms = omega (arith, least_bounded ms)
least-append (n ∷ ns) ms = omega (arith, least-append ns ms)

-- a test that fails in a list fails in its second part
fails_in_second : {A : Type 0} (test : A → Bool) (xs ys : List A) → list_any test (xs ++ ys) ≡ false → list_any test ys ≡ false
fails_in_second test [] ys none = none
fails_in_second test (x ∷ xs) ys none = fails_in_second test xs ys (or_parts (test x) (list_any test (xs ++ ys)) none).1

-- an attachment at the least distance may always be taken, where the feasible distance is not 0
home_feasible : (fd d cost : ℕ) → 0 < fd → distance (at_home cost) ≡ d → is_feasible fd d (at_home cost) ≡ true
home_feasible fd d cost positive attains = and_from _ _ (eq-eqb (distance (at_home cost)) d attains) (lt-ltb 0 fd positive)

-- so where nobody is up and no way may be taken, every distance is infinity
pub least_ways-none_up : (m : Machine) (fd : ℕ) → 0 < fd → IsNoneUp m.ports → condition_holds fd (ways m) ≡ false → least (ways m) ≡ infinity
least_ways-none_up m fd positive none fails = by_attachment m.attachment fails
  where
    ports_far : least m.ports ≡ infinity
    ports_far = least-none_up m.ports none

    by_attachment : (a : Option ℕ) → condition_holds fd (m.ports ++ home_ways a) ≡ false → least (m.ports ++ home_ways a) ≡ infinity
    by_attachment None f = omega (arith, least-append m.ports [], ports_far)
    by_attachment (Some cost) f = by_test (least (m.ports ++ home_ways (Some cost)) == infinity) refl f
      where
        attains : distance (at_home cost) ≡ least (m.ports ++ home_ways (Some cost))
        attains = omega (arith, least-append m.ports (home_ways (Some cost)), ports_far, distance-bounded (at_home cost))

        by_test : (b : Bool) → (least (m.ports ++ home_ways (Some cost)) == infinity) ≡ b
            → (if b then fd == infinity else list_any (is_feasible fd (least (m.ports ++ home_ways (Some cost)))) (m.ports ++ home_ways (Some cost))) ≡ false
            → least (m.ports ++ home_ways (Some cost)) ≡ infinity
        by_test true t g = eqb-true _ _ t
        by_test false t g =
            let test : Neighbour → Bool = is_feasible fd (least (m.ports ++ home_ways (Some cost))) in
            let not_home : test (at_home cost) ≡ false = (or_parts (test (at_home cost)) false (fails_in_second test m.ports (home_ways (Some cost)) g)).0 in
            absurd (true≢false (sym (home_feasible fd _ cost positive attains) ∙ not_home))
