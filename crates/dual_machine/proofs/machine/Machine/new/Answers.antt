use Rattle.std.proofs.Common.{rules}
use Rattle.dual_machine.proofs.machine.Machine.new.Goals as goal

pub returns-in_err-neighbours-clause-inline : goal.returns-in_err-neighbours-clause-inline
returns-in_err-neighbours-clause-inline g c = search rules

pub returns-clause-inline : goal.returns-clause-inline
returns-clause-inline g c = search rules
