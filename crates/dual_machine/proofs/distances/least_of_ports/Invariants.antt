use Rattle.std.proofs.Common.{◌≡◌, ◌≤◌, min, drop}
use Rattle.metric.specs.Distance.{infinity}
use Rattle.network_model.specs.Machine.{least}
use Rattle.dual_machine.proofs.distances.least_of_ports.Given as goal

-- the least so far and the least of the rest make the least
abbrev pub invariant-loop-neighbour : goal.invariant-loop-neighbour
invariant-loop-neighbour l = record {
  so_far : min l.best (least (drop l.neighbour-index l.ports)) ≡ least l.ports;
  in_range : l.best ≤ infinity;
}
