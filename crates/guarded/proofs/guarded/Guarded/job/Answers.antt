use Rattle.std.proofs.Common.{rules}
use Rattle.guarded.proofs.guarded.Guarded.job.Goals as goal

pub returns-clause-asked : goal.returns-clause-asked
returns-clause-asked g c = search rules
