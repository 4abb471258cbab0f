use Rattle.std.proofs.Common.{rules}
use Rattle.diffusing_replies.proofs.origin.Origin.needs_test.Goals as goal

pub returns-in-OwnDisturbed : goal.returns-in-OwnDisturbed
returns-in-OwnDisturbed c = search rules

pub returns-in-Own : goal.returns-in-Own
returns-in-Own c = search rules
