-- A run that comes to rest: the law at rest speaks of some network.
use Rattle.std.specs.Prelude.{◌≡◌, ℕ, ◌<◌, ◌≤◌, true, Some}
use Rattle.metric.specs.Distance.{greatest_cost}
use Rattle.network_model.specs.View.{LinkEnd, State}
use Rattle.loop_freedom.specs.Network.{Topology, Opening, Run}
use Rattle.least_cost.specs.Quiet.{IsQuiet}

-- a run of two routers to which the law at rest applies: it ends quiet, with router 1 at distance 8 by way of its port 0, where router 0 is attached at cost 1
pub record QuietRun : Type 0 where
  pub topology : Topology
  pub first : State
  pub last : State
  pub opening : Opening topology first
  pub run : Run topology first last
  pub placed : (e : LinkEnd) → topology.valid e ≡ true → e.router < 2
  pub cheap : (e : LinkEnd) → topology.valid e ≡ true → last.cost e ≤ greatest_cost
  pub cheap_home : (i c : ℕ) → i < 2 → (last.machine i).attachment ≡ Some c → c ≤ greatest_cost
  pub quiet : IsQuiet topology 2 last
  pub distance : (last.machine 1).rd ≡ 8
  pub successor : (last.machine 1).successor ≡ Some 0
