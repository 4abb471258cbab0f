-- What holds of the feasible next hops of a network that has come to rest: those of equal cost are least, and none is a dead end.
use Rattle.std.specs.Prelude.{◌≡◌, ℕ, ◌+◌, ◌<◌, ◌≤◌, true, List, Some, slice_get}
use Rattle.metric.specs.Distance.{infinity, greatest_cost}
use Rattle.network_model.specs.{declared.machine.Neighbour.Neighbour, Machine.distance, Network.most_routers, View.LinkEnd, View.State}
use Rattle.loop_freedom.specs.Network.{Topology, IsEdgeWalk, HoldsInEveryState}
use Rattle.least_cost.specs.Quiet.{LeadsHome, Follows, IsQuiet, IsHome, IsRouted, walk_end, edges_cost}
use Rattle.many_ways.specs.Network.{FeasibleEdge}

-- the next hop at e is feasible, and of equal cost: at the distance of its router, which is not out of reach
pub record EqualEdge (s : State) (e : LinkEnd) : Type 0 where
  pub feasible : FeasibleEdge s e
  pub neighbour : Neighbour
  pub at : slice_get (s.machine e.router).ports e.port ≡ Some neighbour
  pub equal : distance neighbour ≡ (s.machine e.router).rd
  pub reached : (s.machine e.router).rd < infinity

-- of the feasible next hops of router i
pub record HopsAreGood (t : Topology) (n : ℕ) (s : State) (i : ℕ) : Type 0 where
  -- every walk along those of equal cost that ends at a router whose successor is its attachment, whichever each router takes, costs the
  -- distance of i, and no walk to an attached router costs less
  pub equal_is_least : (es : List LinkEnd) → IsEdgeWalk t (EqualEdge s) i es → (cost : ℕ) → IsHome s (walk_end t i es) cost
      → (edges_cost s es + cost ≡ (s.machine i).rd) × ((others : List LinkEnd) (w : LeadsHome t s i others) → edges_cost s es + cost ≤ edges_cost s others + w.cost)
  -- the row itself is one of them
  pub row_is_equal : (e : LinkEnd) → e.router ≡ i → t.valid e ≡ true → Follows s e → EqualEdge s e
  -- each, of equal cost or not, leads to a router that is nearer, and routed
  pub no_dead_end : (e : LinkEnd) → e.router ≡ i → t.valid e ≡ true → FeasibleEdge s e → ((s.machine (t.far e).router).rd < (s.machine i).rd) × IsRouted t n s (t.far e).router

-- in a quiet network the feasible next hops of each router are good
abbrev pub QuietHopsAreGood : Topology → State → Type 0
QuietHopsAreGood t s = (n : ℕ) → n ≤ most_routers → ((e : LinkEnd) → t.valid e ≡ true → e.router < n) → ((e : LinkEnd) → t.valid e ≡ true → s.cost e ≤ greatest_cost)
    → ((i c : ℕ) → i < n → (s.machine i).attachment ≡ Some c → c ≤ greatest_cost) → IsQuiet t n s
    → (i : ℕ) → i < n → HopsAreGood t n s i

-- after every run from an opening
abbrev pub ManyHopsAtQuiet : Type 0
ManyHopsAtQuiet = HoldsInEveryState QuietHopsAreGood
