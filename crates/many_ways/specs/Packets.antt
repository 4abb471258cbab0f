-- What holds of every packet of every network, in which a router may send each packet by any next hop that is feasible.
use Rattle.std.specs.Prelude.{◌≡◌, ◌⊎◌, ℕ, ◌<◌, ◌≤◌, Bool, false, ◌&&◌, nat_lt, if◌then◌else◌, List, [], ◌∷◌, map, Some, slice_get, length}
use Rattle.std.specs.Option.{option_map_or}
use Rattle.ipv4_prefix.specs.{Prefix.Prefix, LongestMatch.longest_match}
use Rattle.network_model.specs.{NextHops.passing_from, declared.machine.Neighbour.Neighbour, declared.route.Entry.Entry, declared.route.Entry.TheVariants.Via, declared.step.Step.Step, Step.session_at, Network.IsNetwork, Run.Runs, Run.History, Run.history, declared.route.NextHop.NextHop, Forwarding.entry_leads}
use Rattle.network_model.specs.World.{World, Router, Network, machine_of, opening}
use Rattle.no_packet_loops.specs.Packets.{mixture_rows}
use Rattle.all_packets.specs.Packets.{IsWayBy}
use Rattle.loop_freedom.specs.Network.{meets_twice}
use Rattle.many_ways.specs.Network.{Among}

-- ---- the feasible next hops of a router

-- whether a neighbour is feasible: it is up, and reported less than the feasible distance
abbrev pub is_low : ℕ → Neighbour → Bool
is_low fd n = n.up && nat_lt n.reported fd

-- the next hop over a port that has such a neighbour, in the session that the router saw last there
abbrev pub hop_over : Router → ℕ × ℕ → NextHop
hop_over r x = record { port = x.1; session = session_at r.ports x.1 }

-- those of a router for a prefix, by ascending port
abbrev pub feasible_hops : Prefix → Router → List NextHop
feasible_hops p r = map (hop_over r) (passing_from (is_low (machine_of r p).fd) 0 (machine_of r p).ports)

-- the routers as they are, or as they were when they published last
abbrev pub routers_by : Bool → History → List Router
routers_by is_present h = if is_present then (h.world).routers else h.published

-- those of router i for the prefix: the ones of now, or the ones of when it published last
abbrev pub feasible_by : Bool → History → ℕ → Prefix → List NextHop
feasible_by is_present h i p = option_map_or (feasible_hops p) (slice_get (routers_by is_present h) i) []

-- ---- packets

-- a packet for the address may go from router i to router k, where routers have these next hops for prefixes, beside the rows that they
-- published or those that they have chosen since. Its longest match is a row of the prefix, and that row leads to k, or one of the
-- router's next hops for the prefix does
pub record MayGoBy (hops : ℕ → Prefix → List NextHop) (w : World) (is_present : Bool) (addr i k : ℕ) : Type 0 where
  pub prefix : Prefix
  pub entry : Entry
  pub matched : longest_match addr (mixture_rows (λ j. is_present) w i) ≡ Some (prefix, entry)
  pub leads : (entry_leads w i entry ≡ Some k) ⊎ ((o : NextHop) × Among o (hops i prefix) × (entry_leads w i (Via o.port o.session) ≡ Some k))

-- by all that are feasible now, or that were when the router published last, although it may have offered few of them
abbrev pub MayGoByFeasible : History → Bool → ℕ → ℕ → ℕ → Type 0
MayGoByFeasible h is_present addr i k = MayGoBy (feasible_by is_present h) h.world is_present addr i k

-- a way of a packet that goes at each router by the row that it published, or by a next hop that was feasible then. It may also go by the
-- row that the router has chosen since, or by a next hop that is feasible now
abbrev pub IsFeasibleHopWay : History → ℕ → List ℕ → Type 0
IsFeasibleHopWay h addr way = IsWayBy (λ i k. (is_present : Bool) × MayGoByFeasible h is_present addr i k) way

-- no packet meets a router twice, also while routers publish
abbrev pub NoFeasibleHopCircles : History → Type 0
NoFeasibleHopCircles h = (addr : ℕ) (way : List ℕ) → IsFeasibleHopWay h addr way → meets_twice way ≡ false

-- no such way has more routers than there are
abbrev pub FeasibleHopWaysEnd : History → Type 0
FeasibleHopWaysEnd h = (addr i : ℕ) (ks : List ℕ) → i < length (h.world).routers → IsFeasibleHopWay h addr (i ∷ ks) → length (i ∷ ks) ≤ length (h.world).routers

-- what holds of the history of every run from the opening of a network
abbrev pub HoldsInEveryHistory : (History → Type 0) → Type 0
HoldsInEveryHistory P = (n : Network) (ss : List Step) (w : World) → IsNetwork n → Runs (opening n) ss w → P (history n ss)
