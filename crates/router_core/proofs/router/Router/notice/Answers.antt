use Rattle.std.proofs.Common.{rules}
use Rattle.router_core.proofs.router.Router.notice.Goals as goal

pub returns-clause-ok : goal.returns-clause-ok
returns-clause-ok g c = search rules
