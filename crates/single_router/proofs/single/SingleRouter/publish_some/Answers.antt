use Rattle.std.proofs.Common.{rules}
use Rattle.single_router.proofs.single.SingleRouter.publish_some.Goals as goal

pub returns-then-is_empty-clause-published : goal.returns-then-is_empty-clause-published
returns-then-is_empty-clause-published c = search rules

pub returns-clause-published : goal.returns-clause-published
returns-clause-published c = search rules
