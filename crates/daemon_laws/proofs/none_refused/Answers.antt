use Rattle.daemon_laws.proofs.Always.{always_none_refused}
use Rattle.daemon_laws.proofs.none_refused.Goals as goal

pub returns : goal.returns
returns c = always_none_refused
