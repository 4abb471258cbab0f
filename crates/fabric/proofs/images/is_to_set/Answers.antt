use Rattle.std.proofs.Common.{rules}
use Rattle.fabric.proofs.images.is_to_set.Goals as goal

pub returns-then-ne : goal.returns-then-ne
returns-then-ne g c = search rules

pub returns-else-ne : goal.returns-else-ne
returns-else-ne g c = search rules
