use Rattle.std.proofs.Common.{◌≡◌, ◌-◌, ◌<◌, length, take, drop}
use Rattle.all_packets.specs.Through.{through_from}
use Rattle.simulation.proofs.Walks.{behind}
use Rattle.simulation.proofs.simulation.Simulation.trace.Given as goal

abbrev pub invariant-loop-count : goal.invariant-loop-count
invariant-loop-count g l = record {
  known : l.at < length l.self.world.routers;
  room : length l.hops ≡ length l.fn.hops;
  rest : drop l.count l.hops ≡ drop l.count l.fn.hops;
  way : behind (take l.count l.hops) (through_from (length l.fn.hops - l.count) l.self.world l.addr l.at) ≡ through_from (length l.fn.hops) l.self.world l.addr l.router;
}
