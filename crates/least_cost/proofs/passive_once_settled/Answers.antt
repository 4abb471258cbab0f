use Rattle.least_cost.proofs.Settled.{passive_once_settled}
use Rattle.least_cost.proofs.passive_once_settled.Goals as goal

pub returns : goal.returns
returns c = passive_once_settled
