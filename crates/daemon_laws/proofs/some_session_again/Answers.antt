use Rattle.daemon_laws.proofs.Example.{some_session_again as again}
use Rattle.daemon_laws.proofs.some_session_again.Goals as goal

pub returns : goal.returns
returns c = again
