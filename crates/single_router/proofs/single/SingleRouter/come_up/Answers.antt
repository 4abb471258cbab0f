use Rattle.std.proofs.Common.{rules}
use Rattle.single_router.proofs.single.SingleRouter.come_up.Goals as goal

pub returns-in_err-was-clause-cause : goal.returns-in_err-was-clause-cause
returns-in_err-was-clause-cause c = search rules

pub returns-then-was-clause-cause : goal.returns-then-was-clause-cause
returns-then-was-clause-cause c = search rules

pub returns-then-session-was-clause-cause : goal.returns-then-session-was-clause-cause
returns-then-session-was-clause-cause c = search rules

pub returns-in_err-accept-clause-cause : goal.returns-in_err-accept-clause-cause
returns-in_err-accept-clause-cause c = search rules

pub returns-clause-cause : goal.returns-clause-cause
returns-clause-cause c = search rules
