use Rattle.std.proofs.Common.{rules}
use Rattle.fabric.proofs.fabric.Fabric.step.Goals as goal

pub returns-clause-ok : goal.returns-clause-ok
returns-clause-ok g c = search rules
