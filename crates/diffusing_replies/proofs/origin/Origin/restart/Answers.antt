use Rattle.std.proofs.Common.{rules}
use Rattle.diffusing_replies.proofs.origin.Origin.restart.Goals as goal

pub returns-in-OwnDisturbed : goal.returns-in-OwnDisturbed
returns-in-OwnDisturbed c = search rules

pub returns-in-OwingDisturbed : goal.returns-in-OwingDisturbed
returns-in-OwingDisturbed c = search rules
