use Rattle.std.proofs.Common.{rules}
use Rattle.single_router.proofs.input.Input.message.Goals as goal

pub returns-in_err-prefix : goal.returns-in_err-prefix
returns-in_err-prefix c = search rules

pub returns-in_default : goal.returns-in_default
returns-in_default c = search rules

pub returns : goal.returns
returns c = search rules
