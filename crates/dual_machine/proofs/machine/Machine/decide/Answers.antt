use Rattle.std.proofs.Common.{rules}
use Rattle.dual_machine.proofs.machine.Machine.decide.Goals as goal

pub returns-then-condition_holds-clause-machine : goal.returns-then-condition_holds-clause-machine
returns-then-condition_holds-clause-machine g c = search rules

pub returns-else-condition_holds-clause-machine : goal.returns-else-condition_holds-clause-machine
returns-else-condition_holds-clause-machine g c = search rules
