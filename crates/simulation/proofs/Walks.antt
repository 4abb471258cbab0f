-- Packets that are followed along the images in force.
use Rattle.std.proofs.Common.{sym, ap, subst, ◌∙◌, arith, ◌≡◌, ◌≢◌, ℕ, suc, ◌<◌, ◌≤◌, List, [], ◌∷◌, ◌++◌, append_assoc, length, take, drop, Option, Some, None}
use Rattle.no_packet_loops.proofs.Common.{Prefix, Entry, Ending, World, row_for, entry_leads, Ends, Goes, by_row, onward, Trace}
use Rattle.no_packet_loops.proofs.Traces.{by_entry-goes}
use Rattle.all_packets.specs.{Packets.IsWay, Packets.NoPacketCircles, Through.through_from}
use Rattle.course.specs.Links.{HasShortWays, LeadsToRouters}
use Rattle.all_packets.proofs.Through.{is_way, long, onwards, row_ends}
use Rattle.simulation.specs.{Simulation.Simulation, Simulation.IsSimulation, Tracing.HasImageWays, Tracing.IsTraced, Tracing.passed}
use Rattle.simulation.proofs.Headline.{along_images}

-- ---- where a packet goes on, and how it ends

-- where it goes on by a row, an entry leads there
row_leads : (w : World) (i : ℕ) (row : Option (Prefix × Entry)) (q : Prefix) (k : ℕ) → by_row w i None row ≡ Goes q k → (e : Entry) × (entry_leads w i e ≡ Some k)
row_leads w i None q k h = absurd (let none : ⊥ = cc in none)
row_leads w i (Some r) q k h = (r.1, (by_entry-goes w i r.0 r.1 q k h).1)

-- a packet that goes on goes to a router of the world
pub goes_known : (w : World) → LeadsToRouters w → (addr i : ℕ) (q : Prefix) (k : ℕ) → onward w addr None i ≡ Goes q k → k < length w.routers
goes_known w known addr i q k is = let G = row_leads w i (row_for w i addr) q k is in known i G.0 k G.1

-- a packet that ends at a router does not end because another prefix matches
pub real_end : (w : World) (addr i : ℕ) (end : Ending) → onward w addr None i ≡ Ends end → end ≢ Ending.Crossed
real_end w addr i end is = row_ends w i (row_for w i addr) end is

-- ---- traces of at most so many routers

-- a trace with these routers passed before it
abbrev pub behind : List ℕ → Trace → Trace
behind before t = record { path = before ++ t.path; end = t.end }

module _ (w : World) (addr : ℕ) where
  -- where it ends at the router
  pub ends_here : (n i : ℕ) (before : List ℕ) (end : Ending) → onward w addr None i ≡ Ends end → behind before (through_from (suc n) w addr i) ≡ passed (before ++ i ∷ []) (Some end)
  ends_here n i before end is = ap (λ o. behind before (onwards n w addr i o)) is

  -- where it goes on from the router
  pub goes_on : (n i : ℕ) (before : List ℕ) (p : Prefix) (k : ℕ) → onward w addr None i ≡ Goes p k → behind before (through_from (suc n) w addr i) ≡ behind (before ++ i ∷ []) (through_from n w addr k)
  goes_on n i before p k is =
      let rest : Trace = through_from n w addr k in
      ap (λ o. behind before (onwards n w addr i o)) is ∙ ap (λ (xs : List ℕ). passed xs rest.end) (sym (append_assoc before (i ∷ []) rest.path))

-- ---- what is told of a packet that was followed

-- a trace that was written
pub traced : (s : Simulation) → HasImageWays s → (addr i : ℕ) (old new : List ℕ) (count : ℕ) (end : Option Ending) → count ≤ length old → drop count new ≡ drop count old
    → passed (take count new) end ≡ through_from (length old) s.world addr i → IsTraced s addr i old new count end
traced s ways addr i old new count end room rest is =
    let way : IsWay s.world addr (take count new) = subst (λ (t : Trace). IsWay s.world addr t.path) (sym is) (is_way s.world addr (length old) i) in
    record {
      trace = is;
      room = room;
      rest = rest;
      way = ways.in_force addr (take count new) way;
      no_loop = ways.none_twice addr (take count new) way;
    }

-- where there is room for all routers it does not end before the packet
pub unfinished : (s : Simulation) → HasImageWays s → (addr i : ℕ) (old new : List ℕ) → i < length s.world.routers → length s.world.routers ≤ length old → passed new None ≡ through_from (length old) s.world addr i → ⊥
unfinished s ways addr i old new known room is =
    let (ks, count, way) = long s.world addr (length old) i (sym (ap (λ (t : Trace). t.end) is)) in
    let short = ways.short addr i ks known way in
    omega (arith, count, short, room)

-- ---- what holds of the ways of every simulation

pub short_ways : (s : Simulation) → IsSimulation s → NoPacketCircles s.world → HasShortWays s.world → HasImageWays s
short_ways s kept none short = record { in_force = along_images s kept; none_twice = none; short = short }
