use Rattle.std.proofs.Common.{rules}
use Rattle.route_table.proofs.iter.PublishedRowsIterator.next.Goals as goal

pub returns-in-Some-published-clause-steps : goal.returns-in-Some-published-clause-steps
returns-in-Some-published-clause-steps c = search rules
