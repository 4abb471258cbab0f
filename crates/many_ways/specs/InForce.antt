-- What holds of every packet of every network whose routers keep next hops beside their rows, as the model has them.
use Rattle.std.specs.Prelude.{◌≡◌, ◌≢◌, ℕ, ◌<◌, ◌≤◌, Bool, false, if◌then◌else◌, List, [], ◌∷◌, Some, None, slice_get, length}
use Rattle.std.specs.Option.{option_map_or}
use Rattle.ipv4_prefix.specs.Prefix.{Prefix}
use Rattle.network_model.specs.{declared.route.Entry.TheVariants.Via, declared.route.NextHop.NextHop, declared.step.Step.Step, NextHops.hops_at, World.World, World.Router, World.Network, World.opening, Network.IsNetwork, Run.Runs, Step.offered_hops, Forwarding.row_for, Forwarding.entry_leads}
use Rattle.all_packets.specs.Packets.{IsWayBy}
use Rattle.loop_freedom.specs.Network.{meets_twice}
use Rattle.many_ways.specs.Packets.{MayGoBy}

-- the next hops of a router for the prefix beside its row: those that it offers now, or those that it published
abbrev pub hops_by : Bool → Prefix → Router → List NextHop
hops_by is_present p r = hops_at p (if is_present then offered_hops r else (r.hops).published)

-- a packet for the address may go from router i to router k, by what the router published or by what it would publish now
abbrev pub MayGoOver : World → Bool → ℕ → ℕ → ℕ → Type 0
MayGoOver w is_present addr i k = MayGoBy (λ j p. option_map_or (hops_by is_present p) (slice_get w.routers j) []) w is_present addr i k

-- a way of a packet that goes at each router by any of what that published, or of what it publishes meanwhile
abbrev pub IsHopWay : World → ℕ → List ℕ → Type 0
IsHopWay w addr way = IsWayBy (λ i k. (is_present : Bool) × MayGoOver w is_present addr i k) way

-- no packet meets a router twice, whichever of its next hops each router takes
abbrev pub NoHopCircles : World → Type 0
NoHopCircles w = (addr : ℕ) (way : List ℕ) → IsHopWay w addr way → meets_twice way ≡ false

-- no such way has more routers than there are
abbrev pub HopWaysEnd : World → Type 0
HopWaysEnd w = (addr i : ℕ) (ks : List ℕ) → i < length w.routers → IsHopWay w addr (i ∷ ks) → length (i ∷ ks) ≤ length w.routers

-- ---- that there is something to say

-- some run leads to a world in which a router has a choice: it may send a packet to either of two others, by what it published
abbrev pub SomeRouterHasAChoice : Type 0
SomeRouterHasAChoice = (n : Network) × (ss : List Step) × (w : World) × (addr : ℕ) × (i : ℕ) × (j : ℕ) × (k : ℕ) × IsNetwork n × Runs (opening n) ss w
    × MayGoOver w false addr i j × MayGoOver w false addr i k × (j ≢ k)

-- and to one in which the Via row that matches a packet leads nowhere any more, so that the packet goes on by a next hop beside that row
pub record SomeHopOutlivesItsRow : Type 0 where
  pub network : Network
  pub steps : List Step
  pub world : World
  pub is_network : IsNetwork network
  pub runs : Runs (opening network) steps world
  pub addr : ℕ
  pub router : ℕ
  pub prefix : Prefix
  pub port : ℕ
  pub session : ℕ
  pub row : row_for world router addr ≡ Some (prefix, Via port session)
  pub dead : entry_leads world router (Via port session) ≡ None
  pub to : ℕ
  pub goes_on : MayGoOver world false addr router to
