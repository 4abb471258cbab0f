use Rattle.std.proofs.Common.{rules}
use Rattle.release_gate.proofs.gate.Gate.hold.Goals as goal

pub returns-in_err-push_back-clause-ok : goal.returns-in_err-push_back-clause-ok
returns-in_err-push_back-clause-ok g c = search rules

pub returns-clause-ok : goal.returns-clause-ok
returns-clause-ok g c = search rules
