use Rattle.std.proofs.Common.{rules}
use Rattle.router_core.proofs.router.Router.front.Goals as goal

pub returns : goal.returns
returns g c = search rules
