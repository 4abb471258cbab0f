use Rattle.std.proofs.Common.{rules}
use Rattle.image_patch.proofs.ImageApply.apply.Goals as goal

pub returns-in_err-set_rows-clause-ok : goal.returns-in_err-set_rows-clause-ok
returns-in_err-set_rows-clause-ok g c = search rules

pub returns-clause-ok : goal.returns-clause-ok
returns-clause-ok g c = search rules
