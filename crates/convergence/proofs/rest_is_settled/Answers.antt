use Rattle.convergence.proofs.AtRest.{always_rest_is_settled}
use Rattle.convergence.proofs.rest_is_settled.Goals as goal

pub returns : goal.returns
returns c = always_rest_is_settled
