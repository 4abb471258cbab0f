use Rattle.std.proofs.Common.{rules}
use Rattle.fabric.proofs.fabric.Fabric.job.Goals as goal

pub returns-clause-asked : goal.returns-clause-asked
returns-clause-asked g c = search rules

pub returns-clause-in_force : goal.returns-clause-in_force
returns-clause-in_force g c = search rules

pub returns-clause-last : goal.returns-clause-last
returns-clause-last g c = search rules
