use Rattle.daemon_laws.proofs.Always.{after_is_reached as reached}
use Rattle.daemon_laws.proofs.after_is_reached.Goals as goal

pub returns : goal.returns
returns c = reached
