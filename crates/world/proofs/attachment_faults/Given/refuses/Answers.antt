use Rattle.std.proofs.Common.{rules}
use Rattle.world.proofs.attachment_faults.Given.refuses.Goals as goal

pub returns-then-is_given_there : goal.returns-then-is_given_there
returns-then-is_given_there c = search rules

pub returns-after-is_given : goal.returns-after-is_given
returns-after-is_given c = search rules
