use Rattle.std.proofs.Common.{rules}
use Rattle.timed_simulation.proofs.events.take_done.Goals as goal

pub returns-then-given : goal.returns-then-given
returns-then-given g c = search rules

pub returns-else-given : goal.returns-else-given
returns-else-given g c = search rules
