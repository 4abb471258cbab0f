use Rattle.std.proofs.Common.{rules}
use Rattle.c_interface.proofs.row.Row.read.Goals as goal

pub returns-in_err-prefix-clause-ok : goal.returns-in_err-prefix-clause-ok
returns-in_err-prefix-clause-ok c = search rules

pub returns-in_default-clause-ok : goal.returns-in_default-clause-ok
returns-in_default-clause-ok c = search rules

pub returns-clause-ok : goal.returns-clause-ok
returns-clause-ok c = search rules
