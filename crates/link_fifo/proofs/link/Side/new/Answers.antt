use Rattle.std.proofs.Common.{rules}
use Rattle.link_fifo.proofs.link.Side.new.Goals as goal

pub returns : goal.returns
returns g c = search rules
