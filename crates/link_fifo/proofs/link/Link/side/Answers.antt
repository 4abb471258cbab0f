use Rattle.std.proofs.Common.{rules}
use Rattle.link_fifo.proofs.link.Link.side.Goals as goal

pub returns-in-A : goal.returns-in-A
returns-in-A g c = search rules

pub returns-in-B : goal.returns-in-B
returns-in-B g c = search rules
