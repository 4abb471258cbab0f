use Rattle.std.proofs.Common.{◌∙◌}
use Rattle.world.proofs.attachment_faults.Given.is_given_there.Goals as goal

pub returns : goal.returns
returns c = c.contains.ensures ∙ c.requires.pairs c.args.attachment.now.0 c.args.attachment.now.1
