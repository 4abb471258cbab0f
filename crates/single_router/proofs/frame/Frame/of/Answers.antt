use Rattle.std.proofs.Common.{rules}
use Rattle.single_router.proofs.frame.Frame.of.Goals as goal

pub returns : goal.returns
returns c = search rules
