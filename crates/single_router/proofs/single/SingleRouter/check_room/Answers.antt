use Rattle.std.proofs.Common.{rules}
use Rattle.single_router.proofs.single.SingleRouter.check_room.Goals as goal

pub returns-then-self-len-clause-ok : goal.returns-then-self-len-clause-ok
returns-then-self-len-clause-ok c = search rules

pub returns-clause-ok : goal.returns-clause-ok
returns-clause-ok c = search rules
