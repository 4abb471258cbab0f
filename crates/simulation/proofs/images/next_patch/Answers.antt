use Rattle.std.proofs.Common.{rules}
use Rattle.simulation.proofs.images.next_patch.Goals as goal

pub returns-in_err-rows : goal.returns-in_err-rows
returns-in_err-rows g c = search rules

pub returns : goal.returns
returns g c = search rules
