use Rattle.std.proofs.Common.{rules}
use Rattle.timed_simulation.proofs.links.Line.cut.Goals as goal

pub returns : goal.returns
returns g c = search rules
