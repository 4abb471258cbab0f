use Rattle.std.proofs.Common.{◌∙◌}
use Rattle.world.proofs.attachment_faults.Given.is_given.Goals as goal

pub returns : goal.returns
returns c = c.contains.ensures ∙ c.requires.prefixes c.args.attachment.now.0
