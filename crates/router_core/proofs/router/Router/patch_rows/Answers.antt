use Rattle.std.proofs.Common.{rules}
use Rattle.router_core.proofs.router.Router.patch_rows.Goals as goal

pub returns-in_err-rows-clause-rows : goal.returns-in_err-rows-clause-rows
returns-in_err-rows-clause-rows g c = search rules
