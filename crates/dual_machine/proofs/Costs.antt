-- Every cost is at least 1: so a near successor makes the condition hold.
use Rattle.std.proofs.Common.{refl, arith, ◌≡◌, ◌≢◌, ℕ, zero, suc, ◌<◌, ◌≤◌, min, Bool, true, false, ◌&&◌, ◌||◌, ◌==◌, nat_lt, if◌then◌else◌, List, [], ◌∷◌, ◌++◌, Option, Some, None, All, IfSome}
use Rattle.std.specs.List.{list_any}
use Rattle.std.proofs.{lemmas.Bool.or_left, lemmas.Bool.or_right, lemmas.Bool.Decides.nat_tests}
use Rattle.std.proofs.lemmas.List.Elements.{All-cons, All-head, All-tail, All-append}
use Rattle.metric.specs.Distance.{infinity, plus, IsCost}
use Rattle.network_model.specs.{declared.machine.Event.Event, declared.machine.Neighbour.Neighbour}
use Rattle.network_model.specs.declared.machine.Event.TheVariants.{Message, Up, Down, Cost, Attached, Detached}
use Rattle.network_model.specs.Machine.{changed_at, records_after, attachment_after, at_home, home_ways, distance, least, is_feasible, condition_holds, via_successor}
use Rattle.dual_machine.specs.Event.{BringsCost}
use Rattle.network_model.proofs.MachineLaws.{least_bounded}

abbrev HasCost : Neighbour → Type 0
HasCost n = IsCost n.cost

-- ---- an event leaves every cost that of a link

HasCost-changed_at : (f : Neighbour → Neighbour) → ((n : Neighbour) → HasCost n → HasCost (f n)) → (k : ℕ) (ns : List Neighbour) → All HasCost ns → All HasCost (changed_at k f ns)
HasCost-changed_at f keeps k [] costs = costs
HasCost-changed_at f keeps zero (n ∷ ns) costs = All-cons HasCost (f n) ns (keeps n (All-head HasCost n ns costs)) (All-tail HasCost n ns costs)
HasCost-changed_at f keeps (suc k) (n ∷ ns) costs = All-cons HasCost n (changed_at k f ns) (All-head HasCost n ns costs) (HasCost-changed_at f keeps k ns (All-tail HasCost n ns costs))

pub HasCost-records_after : (e : Event) (ns : List Neighbour) → BringsCost e → All (λ n. IsCost n.cost) ns → All (λ n. IsCost n.cost) (records_after e ns)
HasCost-records_after (Message q kind value) ns brought costs = HasCost-changed_at _ (λ n h. h) q ns costs
HasCost-records_after (Up q cost) ns brought costs = HasCost-changed_at _ (λ n h. brought) q ns costs
HasCost-records_after (Down q) ns brought costs = HasCost-changed_at _ (λ n h. h) q ns costs
HasCost-records_after (Cost q cost) ns brought costs = HasCost-changed_at _ (λ n h. brought) q ns costs
HasCost-records_after _ ns brought costs = costs

pub HasCost-attachment_after : (e : Event) (a : Option ℕ) → BringsCost e → IfSome a (λ cost. IsCost cost) → IfSome (attachment_after e a) (λ cost. IsCost cost)
HasCost-attachment_after (Attached cost) a brought attached = brought
HasCost-attachment_after Detached a brought attached = tt
HasCost-attachment_after _ a brought attached = attached

pub HasCost-ways : (ns : List Neighbour) (a : Option ℕ) → All (λ n. IsCost n.cost) ns → IfSome a (λ cost. IsCost cost) → All (λ n. IsCost n.cost) (ns ++ home_ways a)
HasCost-ways ns None costs attached = All-append HasCost ns [] costs (λ k d h. absurd (omega arith))
HasCost-ways ns (Some cost) costs attached = All-append HasCost ns (home_ways (Some cost)) costs (All-cons HasCost (at_home cost) [] attached (λ k d h. absurd (omega arith)))

-- ---- the condition

least_le_via : (ns : List Neighbour) (s : Option ℕ) → least ns ≤ via_successor ns s
least_le_via ns None = least_bounded ns
least_le_via (n ∷ ns) (Some (suc q)) = omega (arith, least_le_via ns (Some q))
least_le_via _ _ = omega arith

-- a neighbour at a finite distance is up, and reported less
nearer_up : (cost reported fd d : ℕ) → 1 ≤ cost → d < infinity → d ≤ fd → plus reported cost ≡ d → (plus reported cost == d) && nat_lt reported fd ≡ true
nearer_up cost reported fd d positive finite near at = grind (arith, nat_tests)

nearer : (up : Bool) (cost reported fd d : ℕ) → 1 ≤ cost → d < infinity → d ≤ fd → (if up then plus reported cost else infinity) ≡ d → is_feasible fd d (record { up = up; cost = cost; reported = reported }) ≡ true
nearer true cost reported fd d positive finite near at = nearer_up cost reported fd d positive finite near at
nearer false cost reported fd d positive finite near at = absurd (omega arith)

least_of_rest : (a b d : ℕ) → min a b ≡ d → a == d ≡ false → b ≡ d
least_of_rest a b d at apart = grind (arith, nat_tests)

same_number : (a b : ℕ) → a == b ≡ true → a ≡ b
same_number a b h = grind (arith, nat_tests)

passes_same : (a b : ℕ) → a ≡ b → a == b ≡ true
passes_same a b h = grind (arith, nat_tests)

apart : (a b : ℕ) → a == b ≡ false → a ≢ b
apart a b h = grind (arith, nat_tests)

has_feasible : (fd d : ℕ) (ns : List Neighbour) → All HasCost ns → d < infinity → d ≤ fd → least ns ≡ d → list_any (is_feasible fd d) ns ≡ true
has_feasible fd d [] costs finite near at = absurd (omega arith)
has_feasible fd d (n ∷ ns) costs finite near at = by_first (distance n == d) refl (has_feasible fd d ns (All-tail HasCost n ns costs) finite near)
  where
    by_first : (b : Bool) → distance n == d ≡ b → (least ns ≡ d → list_any (is_feasible fd d) ns ≡ true) → is_feasible fd d n || list_any (is_feasible fd d) ns ≡ true
    by_first true first rest = or_left (is_feasible fd d n) _ (nearer n.up n.cost n.reported fd d (All-head HasCost n ns costs).positive finite near (same_number (distance n) d first))
    by_first false first rest = or_right (is_feasible fd d n) _ (rest (least_of_rest (distance n) (least ns) d at first))

-- the condition holds where the distance by way of the successor has not risen above the feasible distance
pub condition_holds_near : (fd : ℕ) (ns : List Neighbour) (s : Option ℕ) → All (λ n. IsCost n.cost) ns → fd ≤ infinity → via_successor ns s ≤ fd → condition_holds fd ns ≡ true
condition_holds_near fd ns s costs fits near = by_least (least ns == infinity) refl
  where
    by_least : (b : Bool) → least ns == infinity ≡ b → (if b then fd == infinity else list_any (is_feasible fd (least ns)) ns) ≡ true
    by_least true at = passes_same fd infinity (omega (arith, least_le_via ns s, same_number (least ns) infinity at))
    by_least false at = has_feasible fd (least ns) ns costs (omega (arith, least_bounded ns, apart (least ns) infinity at)) (omega (arith, least_le_via ns s)) refl

pub not_above : (a b : ℕ) → nat_lt a b ≡ false → b ≤ a
not_above a b h = grind (arith, nat_tests)
