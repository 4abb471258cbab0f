use Rattle.std.proofs.Common.{rules}
use Rattle.minima.proofs.due.lesser.Goals as goal

pub returns-in-Some-Some : goal.returns-in-Some-Some
returns-in-Some-Some c = search rules

pub returns-in_default : goal.returns-in_default
returns-in_default c = search rules

pub returns-in_default-2 : goal.returns-in_default-2
returns-in_default-2 c = search rules

pub returns-in-None-default : goal.returns-in-None-default
returns-in-None-default c = search rules
