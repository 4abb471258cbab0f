use Rattle.std.proofs.Common.{rules}
use Rattle.forwarder.proofs.port.look.Goals as goal

pub returns-in_err-answer-clause-later : goal.returns-in_err-answer-clause-later
returns-in_err-answer-clause-later g c = search rules
