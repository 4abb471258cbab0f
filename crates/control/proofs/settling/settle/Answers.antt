use Rattle.std.proofs.Common.{rules}
use Rattle.control.proofs.settling.settle.Goals as goal

pub returns-clause-turns : goal.returns-clause-turns
returns-clause-turns g c = search rules

pub returns-clause-settled : goal.returns-clause-settled
returns-clause-settled g c = search rules

pub returns-clause-alone : goal.returns-clause-alone
returns-clause-alone g c = search rules
