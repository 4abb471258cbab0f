use Rattle.std.proofs.Common.{◌∙◌}
use Rattle.std.proofs.Math.Facts.{to_z-of_z}
use Rattle.timing.proofs.Documents.{natural_read}
use Rattle.timing.proofs.document.natural.Goals as goal

pub returns : goal.returns
returns c = c.ok.ensures.value ∙ natural_read c.args.number c.try_from.result c.ranges.number (rw (to_z-of_z c.ranges.number) at c.try_from.ensures)
