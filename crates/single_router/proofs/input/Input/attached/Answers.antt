use Rattle.std.proofs.Common.{rules}
use Rattle.single_router.proofs.input.Input.attached.Goals as goal

pub returns-in_err-prefix : goal.returns-in_err-prefix
returns-in_err-prefix c = search rules

pub returns-in_err-cost : goal.returns-in_err-cost
returns-in_err-cost c = search rules

pub returns : goal.returns
returns c = search rules
