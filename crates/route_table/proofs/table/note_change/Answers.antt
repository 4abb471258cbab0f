use Rattle.std.proofs.Common.{rules}
use Rattle.route_table.proofs.table.note_change.Goals as goal

pub returns-then-differs-clause-rows : goal.returns-then-differs-clause-rows
returns-then-differs-clause-rows g c = search rules

pub returns-else-differs-clause-rows : goal.returns-else-differs-clause-rows
returns-else-differs-clause-rows g c = search rules
