use Rattle.std.proofs.Common.{rules}
use Rattle.diffusing_replies.proofs.replies.Replies.begin.Goals as goal

pub returns : goal.returns
returns c = search rules
