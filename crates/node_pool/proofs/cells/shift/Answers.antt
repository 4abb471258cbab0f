use Rattle.std.proofs.Common.{rules}
use Rattle.node_pool.proofs.cells.shift.Goals as goal

pub returns : goal.returns
returns g c = search rules
