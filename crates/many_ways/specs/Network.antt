-- A network as one prefix sees it, in which a router may forward by many next hops: how those that are in force may change, and
-- along which walks traffic goes. Each router takes any of them for each packet.
use Rattle.std.specs.Prelude.{◌≡◌, ◌⊎◌, ℕ, ◌<◌, ◌≤◌, true, List, [], Some, slice_get, length}
use Rattle.network_model.specs.{View.LinkEnd, View.State, View.at_port, declared.route.NextHop.NextHop}
use Rattle.machine_laws.specs.Laws.{is_up_at, reported_at}
use Rattle.loop_freedom.specs.Network.{Topology, Step, Opening, IsLoopFree, PublishedEdge, ControlEdge}

-- a network at one moment, and the next hops that are in force at each router beside its row: ports, each in a session of its link
pub record Wide : Type 0 where
  pub state : State
  pub hops : ℕ → List NextHop

-- the next hop is one of these
abbrev pub Among : NextHop → List NextHop → Type 0
Among h hs = (k : ℕ) × (slice_get hs k ≡ Some h)

-- router i may put this next hop in force now. Its port is up, in the session that the router saw last, and the neighbour there
-- reported less than the feasible distance that the router published
pub record IsFeasible (s : State) (i : ℕ) (h : NextHop) : Type 0 where
  pub port_up : is_up_at (s.machine i) h.port ≡ true
  pub present : h.session ≡ s.seen (at_port i h.port)
  pub below : reported_at (s.machine i) h.port < s.published_fd i

-- the step ripens no message of router i, and leaves the feasible distance that it published
pub record StaysInForce (old new : State) (i : ℕ) : Type 0 where
  pub distance : new.published_fd i ≡ old.published_fd i
  pub ripens_nothing : (e : LinkEnd) → e.router ≡ i → length (new.ripe e) ≤ length (old.ripe e)

-- a step of the network. A router may take next hops out at any time. It may add one at any time at which that is feasible. It may
-- leave one as it is until a publication makes a message ripe, or has another feasible distance
pub record WideStep (t : Topology) (old new : Wide) : Type 0 where
  pub step : Step t old.state new.state
  pub hops : (i : ℕ) (h : NextHop) → Among h (new.hops i) → IsFeasible new.state i h ⊎ (Among h (old.hops i) × StaysInForce old.state new.state i)

-- such steps, one after another
pub data WideRun (t : Topology) (first : Wide) : Wide → Type 0 where
  Begins : WideRun t first first
  GoesOn : {middle last : Wide} → WideRun t first middle → WideStep t middle last → WideRun t first last

-- before the first step no next hop is in force
pub record WideOpening (t : Topology) (w : Wide) : Type 0 where
  pub opening : Opening t w.state
  pub no_hops : (i : ℕ) → w.hops i ≡ []

-- ---- where traffic may go

-- the next hop at e is in force at the router, in the present session of the link there, which is up
pub record HopEdge (w : Wide) (e : LinkEnd) : Type 0 where
  pub linked : (w.state).up e ≡ true
  pub in_force : Among (record { port = e.port; session = (w.state).session e }) (w.hops e.router)

-- the machine of the router would take the neighbour at e: it reported less than the present feasible distance, in the present session
pub record FeasibleEdge (s : State) (e : LinkEnd) : Type 0 where
  pub linked : s.up e ≡ true
  pub port_up : is_up_at (s.machine e.router) e.port ≡ true
  pub present : s.seen e ≡ s.session e
  pub below : reported_at (s.machine e.router) e.port < (s.machine e.router).fd

-- a packet may go over the link at e, by the row that is published or any next hop that is in force beside it. It may also go by the
-- row that the router has chosen since, or by any next hop that is feasible now
pub data MayForward (w : Wide) (e : LinkEnd) : Type 0 where
  ByRow : PublishedEdge w.state e → MayForward w e
  ByHop : HopEdge w e → MayForward w e
  ByChosen : ControlEdge w.state e → MayForward w e
  ByFeasible : FeasibleEdge w.state e → MayForward w e

-- the law: after every run, no walk meets a router twice, whichever next hop each router takes
abbrev pub ManyHopsLoopFree : Type 0
ManyHopsLoopFree = (t : Topology) (first last : Wide) → WideOpening t first → WideRun t first last → IsLoopFree t (MayForward last)
