use Rattle.std.proofs.Common.{rules}
use Rattle.network_calls.proofs.rows.look_up.Goals as goal

pub returns-in-None-clause-answers : goal.returns-in-None-clause-answers
returns-in-None-clause-answers c = search rules

pub returns-in-Some-2-clause-answers : goal.returns-in-Some-2-clause-answers
returns-in-Some-2-clause-answers c = search rules
