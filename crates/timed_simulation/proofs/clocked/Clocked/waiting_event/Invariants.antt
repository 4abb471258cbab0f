use Rattle.std.proofs.Common.{◌≡◌, ℕ, ◌≤◌, Some}
use Rattle.network_model.specs.World.{degree_of}
use Rattle.timed_simulation.specs.{Timed.world_of, Events.arrival_event, Events.soonest}
use Rattle.timed_simulation.proofs.clocked.Clocked.waiting_event.Given as goal

abbrev pub invariant-loop-port : goal.invariant-loop-port
invariant-loop-port g l = record {
  so_far : l.first ≡ soonest (arrival_event l.self l.router) l.port;
  within : (d : ℕ) → degree_of (world_of l.self) l.router ≡ Some d → l.port ≤ d;
}
