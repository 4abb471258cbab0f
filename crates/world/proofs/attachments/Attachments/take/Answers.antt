use Rattle.std.proofs.Common.{rules}
use Rattle.world.proofs.attachments.Attachments.take.Goals as goal

pub returns : goal.returns
returns g c = search rules
