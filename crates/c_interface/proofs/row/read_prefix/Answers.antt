use Rattle.std.proofs.Common.{rules}
use Rattle.c_interface.proofs.row.read_prefix.Goals as goal

pub returns-then-len-gt32-clause-err : goal.returns-then-len-gt32-clause-err
returns-then-len-gt32-clause-err c = search rules

pub returns-in-Ok-clause-err : goal.returns-in-Ok-clause-err
returns-in-Ok-clause-err c = search rules

pub returns-in-Err-clause-err : goal.returns-in-Err-clause-err
returns-in-Err-clause-err c = search rules
