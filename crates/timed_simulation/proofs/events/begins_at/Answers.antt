use Rattle.std.proofs.Common.{rules}
use Rattle.timed_simulation.proofs.events.begins_at.Goals as goal

pub returns-in_default : goal.returns-in_default
returns-in_default g c = search rules
