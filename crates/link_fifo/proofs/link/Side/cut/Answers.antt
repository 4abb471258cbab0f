use Rattle.std.proofs.Common.{rules}
use Rattle.link_fifo.proofs.link.Side.cut.Goals as goal

pub returns-clause-side : goal.returns-clause-side
returns-clause-side g c = search rules
