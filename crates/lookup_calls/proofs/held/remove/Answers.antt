use Rattle.std.proofs.Common.{rules}
use Rattle.lookup_calls.proofs.held.remove.Goals as goal

pub returns-clause-removed : goal.returns-clause-removed
returns-clause-removed c = search rules
