use Rattle.std.proofs.Common.{rules}
use Rattle.single_router.proofs.single.SingleRouter.forget.Goals as goal

pub returns-then-is_none-clause-ok : goal.returns-then-is_none-clause-ok
returns-then-is_none-clause-ok c = search rules

pub returns-then-not-may_forget-clause-ok : goal.returns-then-not-may_forget-clause-ok
returns-then-not-may_forget-clause-ok c = search rules

pub returns-clause-ok : goal.returns-clause-ok
returns-clause-ok c = search rules
