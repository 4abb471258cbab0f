use Rattle.std.proofs.Common.{rules}
use Rattle.dual_machine.proofs.sends.Sends.reserve.Goals as goal

pub returns-in_err-reserve-clause-ok : goal.returns-in_err-reserve-clause-ok
returns-in_err-reserve-clause-ok g c = search rules

pub returns-clause-ok : goal.returns-clause-ok
returns-clause-ok g c = search rules
