use Rattle.std.proofs.Common.{rules}
use Rattle.single_router.proofs.single.write_chosen.Goals as goal

pub returns-clause-written : goal.returns-clause-written
returns-clause-written c = search rules
