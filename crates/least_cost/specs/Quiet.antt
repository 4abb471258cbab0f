-- What holds of a network that has come to rest: successors lead along cheapest ways to an attached router.
use Rattle.std.specs.Prelude.{◌≡◌, ℕ, ◌+◌, ◌<◌, ◌≤◌, true, false, List, [], ◌∷◌, Some, None, length}
use Rattle.metric.specs.Distance.{infinity, greatest_cost}
use Rattle.network_model.specs.{Machine.port_count, Machine.port_successor, Network.most_routers, View.LinkEnd, View.State, View.at_port}
use Rattle.machine_laws.specs.Laws.{is_active}
use Rattle.loop_freedom.specs.Network.{Topology, PublishedEdge, ControlEdge, IsEdgeWalk, HoldsInEveryState, next_hop_of}

-- the router at which a walk from router i ends
abbrev pub walk_end : Topology → ℕ → List LinkEnd → ℕ
walk_end t i [] = i
walk_end t i (e ∷ es) = walk_end t (t.far e).router es

-- the sum of the costs along a walk, each that of the router which sends
abbrev pub edges_cost : State → List LinkEnd → ℕ
edges_cost s [] = 0
edges_cost s (e ∷ es) = s.cost e + edges_cost s es

-- a walk of links that are up, from router i to a router that is attached, and the cost of its attachment
pub record LeadsHome (t : Topology) (s : State) (i : ℕ) (es : List LinkEnd) : Type 0 where
  pub live : IsEdgeWalk t (λ e. s.up e ≡ true) i es
  pub cost : ℕ
  pub home : (s.machine (walk_end t i es)).attachment ≡ Some cost

-- the router's machine has chosen this way, and its traffic takes it
pub record Follows (s : State) (e : LinkEnd) : Type 0 where
  pub sends : PublishedEdge s e
  pub chooses : ControlEdge s e

-- every router below n is passive and its successor published, and nothing is on a link or held
pub record IsQuiet (t : Topology) (n : ℕ) (s : State) : Type 0 where
  pub passive : (i : ℕ) → i < n → is_active (s.machine i) ≡ false
  pub inbox_empty : (e : LinkEnd) → t.valid e ≡ true → s.inbox e ≡ []
  pub ripe_empty : (e : LinkEnd) → t.valid e ≡ true → s.ripe e ≡ []
  pub unripe_empty : (e : LinkEnd) → t.valid e ≡ true → s.unripe e ≡ []
  pub published_is : (i : ℕ) → i < n → s.published i ≡ next_hop_of (λ q. s.seen (at_port i q)) (port_successor (s.machine i))

-- router i is attached at this cost, its successor is its attachment, and it sends no traffic on
pub record IsHome (s : State) (i cost : ℕ) : Type 0 where
  pub attached : (s.machine i).attachment ≡ Some cost
  pub chosen : (s.machine i).successor ≡ Some (port_count (s.machine i))
  pub no_next_hop : s.published i ≡ None

-- the successors from router i lead to a router at its attachment in fewer than n hops, at the distance of i, the cost of
-- the attachment included, and no walk to an attached router costs less
pub record IsRouted (t : Topology) (n : ℕ) (s : State) (i : ℕ) : Type 0 where
  pub chain : List LinkEnd
  pub follows : IsEdgeWalk t (Follows s) i chain
  pub cost : ℕ
  pub reaches : IsHome s (walk_end t i chain) cost
  pub hops : length chain < n
  pub cost_is : edges_cost s chain + cost ≡ (s.machine i).rd
  pub least_cost : (es : List LinkEnd) (w : LeadsHome t s i es) → (s.machine i).rd ≤ edges_cost s es + w.cost

-- router i has no successor, sends no traffic on, and is at distance infinity
pub record HasNoWayOut (s : State) (i : ℕ) : Type 0 where
  pub no_successor : (s.machine i).successor ≡ None
  pub no_next_hop : s.published i ≡ None
  pub far_away : (s.machine i).rd ≡ infinity

-- router i is routed where a walk leads to an attached router, and cut off where none does
pub record IsOptimal (t : Topology) (n : ℕ) (s : State) (i : ℕ) : Type 0 where
  pub connected : (es : List LinkEnd) → LeadsHome t s i es → IsRouted t n s i
  pub disconnected : ((es : List LinkEnd) → LeadsHome t s i es → ⊥) → HasNoWayOut s i

-- in a quiet network of as many routers as a network may have, whose costs are costs, every router is routed or cut off
abbrev pub QuietIsOptimal : Topology → State → Type 0
QuietIsOptimal t s = (n : ℕ) → n ≤ most_routers → ((e : LinkEnd) → t.valid e ≡ true → e.router < n) → ((e : LinkEnd) → t.valid e ≡ true → s.cost e ≤ greatest_cost)
    → ((i c : ℕ) → i < n → (s.machine i).attachment ≡ Some c → c ≤ greatest_cost) → IsQuiet t n s
    → (i : ℕ) → i < n → IsOptimal t n s i

-- after every run from an opening, each router of a quiet network is routed or cut off
abbrev pub OptimalAtQuiet : Type 0
OptimalAtQuiet = HoldsInEveryState QuietIsOptimal
