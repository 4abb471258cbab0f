use Rattle.std.proofs.Common.{rules}
use Rattle.link_fifo.proofs.links.Links.far_end.Goals as goal

pub returns : goal.returns
returns g c = search rules
