use Rattle.std.proofs.Common.{rules}
use Rattle.dual_machine.proofs.events.successor_after.Goals as goal

pub returns-in-Down : goal.returns-in-Down
returns-in-Down c = search rules

pub returns-in-Detached : goal.returns-in-Detached
returns-in-Detached c = search rules

pub returns-in_default : goal.returns-in_default
returns-in_default c = search rules

pub returns-in_default-2 : goal.returns-in_default-2
returns-in_default-2 c = search rules

pub returns-in_default-3 : goal.returns-in_default-3
returns-in_default-3 c = search rules
