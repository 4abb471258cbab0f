use Rattle.std.proofs.Common.{◌≡◌, drop}
use Rattle.single_router.specs.{Inputs.cost_fault, Openings.first_fault_in}
use Rattle.single_router.proofs.opening.check_costs.Given as goal

abbrev pub invariant-loop-cost : goal.invariant-loop-cost
invariant-loop-cost l = first_fault_in cost_fault (drop l.cost-index l.costs) ≡ first_fault_in cost_fault l.costs
