use Rattle.quiet_routes.proofs.Settled.{settled_is_quiet}
use Rattle.quiet_routes.proofs.settled_is_quiet.Goals as goal

pub returns : goal.returns
returns c = settled_is_quiet
