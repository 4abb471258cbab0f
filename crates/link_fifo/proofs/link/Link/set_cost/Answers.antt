use Rattle.std.proofs.Common.{rules}
use Rattle.link_fifo.proofs.link.Link.set_cost.Goals as goal

pub returns-in-A-clause-ok : goal.returns-in-A-clause-ok
returns-in-A-clause-ok g c = search rules

pub returns-in-B-clause-ok : goal.returns-in-B-clause-ok
returns-in-B-clause-ok g c = search rules
