-- Where packets go between routers in processes of their own that may forward by many next hops, and what is claimed of their ways.
use Rattle.std.specs.Prelude.{◌≡◌, ◌⊎◌, ℕ, false, List, Option, Some}
use Rattle.ipv4_prefix.specs.{Prefix.Prefix, LongestMatch.longest_match}
use Rattle.network_model.specs.{declared.route.Entry.Entry, declared.route.Entry.TheVariants.Via, declared.route.NextHop.NextHop, NextHops.hops_at}
use Rattle.loop_freedom.specs.Network.{Topology, meets_twice}
use Rattle.all_packets.specs.Packets.{IsWayBy}
use Rattle.many_ways.specs.{Network.Among, Packets.feasible_hops}
use Rattle.daemon_laws.specs.Processes.{Processes}
use Rattle.daemon_laws.specs.Packets.{session_leads, unmarked_leads, IsHalfWritten, IsShut}

-- router i published this next hop beside its row of the prefix, or it is feasible now. Then its port is up, in the session that the
-- router saw last, and the neighbour there reported less than the feasible distance
abbrev pub IsHop : Processes → ℕ → Prefix → NextHop → Type 0
IsHop w i p h = Among h (hops_at p ((w.routers i).hops).published) ⊎ Among h (feasible_hops p (w.routers i))

-- a packet for the address may go from router i to router k
pub data MayGo (entry_goes : ℕ → Entry → Option ℕ) (w : Processes) (addr i k : ℕ) : Type 0 where
  -- by the row that matches it longest in a table into which rows are being written, or in one that is written
  ByRow : (table : List (Prefix × Entry)) (row : Prefix × Entry) → IsHalfWritten ((w.routers i).table).published ((w.routers i).table).control table
      → longest_match addr table ≡ Some row → entry_goes i row.1 ≡ Some k → MayGo entry_goes w addr i k
  -- by a next hop beside that row
  ByHop : (table : List (Prefix × Entry)) (row : Prefix × Entry) (hop : NextHop) → IsHalfWritten ((w.routers i).table).published ((w.routers i).table).control table
      → longest_match addr table ≡ Some row → IsHop w i row.0 hop → entry_goes i (Via hop.port hop.session) ≡ Some k → MayGo entry_goes w addr i k
  -- at a router that lets nothing in, by any row or next hop, as one may stand there of the process before
  ByOld : (entry : Entry) → IsShut w i → entry_goes i entry ≡ Some k → MayGo entry_goes w addr i k

-- no packet meets a router twice, whichever prefixes match it, and whichever of its next hops each router takes for it. So it is while
-- routers write rows and next hops into their tables, one by one and in any order, and while a process that has begun anew takes out
-- those of the process before
abbrev pub NoHopCirclesAtDaemons : Topology → Processes → Type 0
NoHopCirclesAtDaemons t w = (addr : ℕ) (way : List ℕ) → IsWayBy (MayGo (session_leads t w) w addr) way → meets_twice way ≡ false

-- nor where packets carry no session
abbrev pub NoUnmarkedHopCircles : Topology → Processes → Type 0
NoUnmarkedHopCircles t w = (addr : ℕ) (way : List ℕ) → IsWayBy (MayGo (unmarked_leads t w) w addr) way → meets_twice way ≡ false
