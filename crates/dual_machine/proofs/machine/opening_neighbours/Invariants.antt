use Rattle.std.proofs.Common.{◌≡◌, ◌≤◌, take, All, length}
use Rattle.metric.specs.Distance.{IsCost}
use Rattle.dual_machine.specs.State as state
use Rattle.dual_machine.proofs.machine.opening_neighbours.Given as goal

abbrev pub invariant-loop-port : goal.invariant-loop-port
invariant-loop-port g l = record {
  so_far : (l.neighbours).items ≡ state.opening_neighbours (take l.port-index l.ports);
  costs : All (λ n. IsCost n.cost) (l.neighbours).items;
  count : length (l.neighbours).items ≡ l.port-index;
  room : length l.ports ≤ (l.neighbours).capacity;
}
