use Rattle.std.proofs.Common.{rules}
use Rattle.timed_simulation.proofs.links.later.Goals as goal

pub returns : goal.returns
returns c = search rules
