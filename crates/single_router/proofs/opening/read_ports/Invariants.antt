use Rattle.std.proofs.Common.{◌≡◌, None, map, take, drop}
use Rattle.single_router.specs.{Inputs.cost_fault, Openings.first_fault_in, Openings.unused_port}
use Rattle.single_router.proofs.opening.read_ports.Given as goal

abbrev pub invariant-loop-cost : goal.invariant-loop-cost
invariant-loop-cost l = record {
  rest : first_fault_in cost_fault (drop l.cost-index l.costs) ≡ None;
  items : l.ports.items ≡ map unused_port (take l.cost-index l.costs);
}
