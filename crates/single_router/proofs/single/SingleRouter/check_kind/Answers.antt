use Rattle.std.proofs.Common.{rules}
use Rattle.single_router.proofs.single.SingleRouter.check_kind.Goals as goal

pub returns-in-Query-clause-ok : goal.returns-in-Query-clause-ok
returns-in-Query-clause-ok c = search rules

pub returns-in-Reply-clause-ok : goal.returns-in-Reply-clause-ok
returns-in-Reply-clause-ok c = search rules

pub returns-in_default-clause-ok : goal.returns-in_default-clause-ok
returns-in_default-clause-ok c = search rules

pub returns-in_default-2-clause-ok : goal.returns-in_default-2-clause-ok
returns-in_default-2-clause-ok c = search rules

pub returns-in_default-3-clause-ok : goal.returns-in_default-3-clause-ok
returns-in_default-3-clause-ok c = search rules
