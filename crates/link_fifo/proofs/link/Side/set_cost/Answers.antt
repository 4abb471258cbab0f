use Rattle.std.proofs.Common.{rules}
use Rattle.link_fifo.proofs.link.Side.set_cost.Goals as goal

pub returns-in_err-put-clause-ok : goal.returns-in_err-put-clause-ok
returns-in_err-put-clause-ok g c = search rules

pub returns-clause-ok : goal.returns-clause-ok
returns-clause-ok g c = search rules
