use Rattle.std.proofs.Common.{rules}
use Rattle.dual_machine.proofs.distances.chosen_successor.Goals as goal

pub returns-then-is_infinite : goal.returns-then-is_infinite
returns-then-is_infinite c = search rules

pub returns-then-is_feasible_at : goal.returns-then-is_feasible_at
returns-then-is_feasible_at c = search rules

pub returns : goal.returns
returns c = search rules
