use Rattle.std.proofs.Common.{rules}
use Rattle.guarded.proofs.guarded.Guarded.close.Goals as goal

pub returns-clause-sum : goal.returns-clause-sum
returns-clause-sum g c = search rules
