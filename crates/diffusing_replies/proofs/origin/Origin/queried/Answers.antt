use Rattle.std.proofs.Common.{rules}
use Rattle.diffusing_replies.proofs.origin.Origin.queried.Goals as goal

pub returns : goal.returns
returns c = search rules
