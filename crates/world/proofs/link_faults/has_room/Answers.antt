use Rattle.std.proofs.Common.{rules}
use Rattle.world.proofs.link_faults.has_room.Goals as goal

pub returns-then-of_a-limits : goal.returns-then-of_a-limits
returns-then-of_a-limits c = search rules

pub returns-else-of_a-limits : goal.returns-else-of_a-limits
returns-else-of_a-limits c = search rules
