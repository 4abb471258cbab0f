use Rattle.daemon_laws.proofs.Example.{some_forgets as forgets}
use Rattle.daemon_laws.proofs.some_forgets.Goals as goal

pub returns : goal.returns
returns c = forgets
