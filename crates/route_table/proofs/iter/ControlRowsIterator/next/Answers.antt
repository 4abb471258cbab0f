use Rattle.std.proofs.Common.{rules}
use Rattle.route_table.proofs.iter.ControlRowsIterator.next.Goals as goal

pub returns-clause-steps : goal.returns-clause-steps
returns-clause-steps c = search rules
