use Rattle.std.proofs.Common.{rules}
use Rattle.publication.proofs.job.Job.generation.Goals as goal

pub returns : goal.returns
returns g c = search rules
