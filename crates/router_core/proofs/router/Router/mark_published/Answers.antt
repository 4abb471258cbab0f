use Rattle.std.proofs.Common.{rules}
use Rattle.router_core.proofs.router.Router.mark_published.Goals as goal

pub returns : goal.returns
returns g c = search rules
