-- Between two takings a packet goes along a way of one world: so it makes few hops, and in a network that is left alone they end.
use Rattle.std.proofs.Common.{refl, subst, ◌∙◌, arith, ◌<◌, ◌≤◌, ◌≡◌, ℕ, suc, ◌+◌, ◌*◌, Bool, true, false, if◌then◌else◌, List, [], ◌∷◌, ◌++◌, length, Option, Some, None, option_and_then}
use Rattle.no_packet_loops.proofs.Common.{length-map-range_with_len, Prefix, Entry, World, Network, opening, longest_match, entry_leads, next, Runs, history, None_not_Some, IsNetwork, suc-mul, mul-le-mul_right, Step}
use Rattle.no_packet_loops.specs.Packets.{HoldsInEveryWorld, mixture_rows}
use Rattle.no_packet_loops.proofs.{Runs.reached, Walks.leads_known, Wiring.wired, WorldLaws.runs_more, WorldLaws.next-shape, WorldLaws.Runs-shape}
use Rattle.all_packets.specs.Packets.{MayGoOn, IsMovingWay}
use Rattle.all_packets.specs.Journeys.{is_taking, Event, Goes, Does, routers_met}
use Rattle.all_packets.proofs.{Ways.always_ways_end, Journeys.none_later, Journeys.way_before}
use Rattle.coming_to_rest.specs.Worlds.{AllOwn, HasBound}
use Rattle.coming_to_rest.proofs.AllWorlds.{all_have_bounds}
use Rattle.moving_packets.specs.Moving.{IsMoving, takings, HopsAreFew, OwnAlone, HopsEnd}

-- the routers that the packet comes to before the first taking
abbrev before : List Event → List ℕ
before [] = []
before (Goes k ∷ es) = k ∷ before es
before (Does s ∷ es) = if is_taking s then [] else before es

-- how many it comes to later
abbrev later : List Event → ℕ
later [] = 0
later (Goes k ∷ es) = later es
later (Does s ∷ es) = if is_taking s then length (before es) + later es else later es

-- these are all
parts : (es : List Event) → length (routers_met es) ≡ length (before es) + later es
parts [] = refl
parts (Goes k ∷ es) = (let e = parts es in omega (arith, e))
parts (Does s ∷ es) = by_kind (is_taking s) (parts es)
  where
    by_kind : (b : Bool) → length (routers_met es) ≡ length (before es) + later es → length (routers_met es) ≡ length (if b then [] else before es) + (if b then length (before es) + later es else later es)
    by_kind true e = omega (arith, e)
    by_kind false e = e

-- a packet that goes on comes to a router of the network
hop_within : (n : Network) → IsNetwork n → (ss : List Step) (w : World) → Runs (opening n) ss w → (addr i k : ℕ) → MayGoOn w addr i k → k < length w.routers
hop_within n valid ss w r addr i k h = by_row (longest_match addr (mixture_rows (λ j. h.0) w i)) h.1
  where
    by_row : (o : Option (Prefix × Entry)) → option_and_then (λ (x : Prefix × Entry). entry_leads w i x.1) o ≡ Some k → k < length w.routers
    by_row None g = absurd (None_not_Some g)
    by_row (Some x) g =
        let count : length w.routers ≡ n.routers = (Runs-shape (opening n) ss w r).routers ∙ length-map-range_with_len _ 0 n.routers in
        let lt = leads_known n (wired n valid) x.0 w (history n ss).published (reached n (wired n valid) x.0 ss w r) i x.1 k g in
        omega (arith, lt, count)

module _ (n : Network) (valid : IsNetwork n) (addr : ℕ) where
  -- before the first taking the packet goes along a way of the world in which it begins
  way : (ss : List Step) (w : World) → Runs (opening n) ss w → (i : ℕ) (es : List Event) → IsMoving w addr i es → IsMovingWay w addr (i ∷ before es)
  way ss w r i [] h = tt
  way ss w r i (Goes k ∷ es) h = (h.0, way ss w r k es h.1)
  way ss w r i (Does s ∷ es) h = by_kind (is_taking s) refl (way (ss ++ s ∷ []) (next w s) (runs_more (opening n) ss w s r h.0) i es h.1)
    where
      by_kind : (b : Bool) → is_taking s ≡ b → IsMovingWay (next w s) addr (i ∷ before es) → IsMovingWay w addr (i ∷ (if b then [] else before es))
      by_kind true is then_way = tt
      by_kind false is then_way = way_before w s (none_later n ss w valid r) h.0 is addr (i ∷ before es) then_way

  -- after each taking it goes along another
  later_few : (ss : List Step) (w : World) → Runs (opening n) ss w → (i : ℕ) (es : List Event) → i < length w.routers → IsMoving w addr i es → later es ≤ takings es * length w.routers
  later_few ss w r i [] lt h = omega arith
  later_few ss w r i (Goes k ∷ es) lt h = later_few ss w r k es (hop_within n valid ss w r addr i k h.0) h.1
  later_few ss w r i (Does s ∷ es) lt h = by_kind (is_taking s) (λ lt' r'. later_few (ss ++ s ∷ []) (next w s) r' i es lt' h.1)
    where
      r' : Runs (opening n) (ss ++ s ∷ []) (next w s)
      r' = runs_more (opening n) ss w s r h.0

      same : length (next w s).routers ≡ length w.routers
      same = (next-shape w s).routers

      lt' : i < length (next w s).routers
      lt' = (let e = same in omega (arith, lt, e))

      first : length (i ∷ before es) ≤ length (next w s).routers
      first = always_ways_end n (ss ++ s ∷ []) (next w s) valid r' addr i (before es) lt' (way (ss ++ s ∷ []) (next w s) r' i es h.1)

      by_kind : (b : Bool) → (i < length (next w s).routers → Runs (opening n) (ss ++ s ∷ []) (next w s) → later es ≤ takings es * length (next w s).routers) → (if b then length (before es) + later es else later es) ≤ (if b then suc (takings es) else takings es) * length w.routers
      by_kind false rest = subst (λ (x : ℕ). later es ≤ takings es * x) same (rest lt' r')
      by_kind true rest =
          let all = suc-mul (takings es) (length w.routers) in
          let e = same in
          let le = subst (λ (x : ℕ). later es ≤ takings es * x) same (rest lt' r') in
          let few = first in
          omega (arith, all, e, le, few)

-- a packet makes few hops, from every world of every run
pub always_few : HoldsInEveryWorld HopsAreFew
always_few n ss w valid r addr i es lt h =
    let few = always_ways_end n ss w valid r addr i (before es) lt (way n valid addr ss w r i es h) in
    let rest = later_few n valid addr ss w r i es lt h in
    let all = suc-mul (takings es) (length w.routers) in
    let sum = parts es in
    omega (arith, few, rest, all, sum)

-- ---- a network that is left alone

abbrev done : List Event → List Step
done [] = []
done (Goes k ∷ es) = done es
done (Does s ∷ es) = s ∷ done es

-- there are as many takings at most
takings_done : (es : List Event) → takings es ≤ length (done es)
takings_done [] = omega arith
takings_done (Goes k ∷ es) = takings_done es
takings_done (Does s ∷ es) = by_kind (is_taking s) (takings_done es)
  where
    by_kind : (b : Bool) → takings es ≤ length (done es) → (if b then suc (takings es) else takings es) ≤ length (s ∷ done es)
    by_kind true le = omega (arith, le)
    by_kind false le = omega (arith, le)

-- they lead somewhere
world_after : World → List Event → World
world_after w [] = w
world_after w (Goes k ∷ es) = world_after w es
world_after w (Does s ∷ es) = world_after (next w s) es

done_runs : (w : World) (addr i : ℕ) (es : List Event) → IsMoving w addr i es → Runs w (done es) (world_after w es)
unfolding world_after
done_runs w addr i [] h = refl
done_runs w addr i (Goes k ∷ es) h = done_runs w addr k es h.1
done_runs w addr i (Does s ∷ es) h = (h.0, done_runs (next w s) addr i es h.1)

-- and are the network's own
done_own : (es : List Event) → OwnAlone es → AllOwn (done es)
done_own [] h = tt
done_own (Goes k ∷ es) h = done_own es h
done_own (Does s ∷ es) h = (h.0, done_own es h.1)

-- so hops end, from every world of every run
pub always_hops_end : HoldsInEveryWorld HopsEnd
always_hops_end n ss w valid r = (suc B.0 * length w.routers, bound)
  where
    B : HasBound w
    B = all_have_bounds n ss w valid r

    bound : (addr i : ℕ) (es : List Event) → i < length w.routers → IsMoving w addr i es → OwnAlone es → length (routers_met es) ≤ suc B.0 * length w.routers
    bound addr i es lt h own =
        let few = always_few n ss w valid r addr i es lt h in
        let steps = B.1 (done es) (world_after w es) (done_own es own) (done_runs w addr i es h) in
        let taken = takings_done es in
        let le : suc (takings es) ≤ suc B.0 = omega (arith, steps, taken) in
        let more = mul-le-mul_right (length w.routers) le in
        omega (arith, few, more)
