use Rattle.std.proofs.Common.{rules}
use Rattle.link_fifo.proofs.link.Side.copy.Goals as goal

pub returns-in_err-inbox-clause-spare : goal.returns-in_err-inbox-clause-spare
returns-in_err-inbox-clause-spare g c = search rules

pub returns-in_err-reserve-clause-spare : goal.returns-in_err-reserve-clause-spare
returns-in_err-reserve-clause-spare g c = search rules

pub returns-clause-spare : goal.returns-clause-spare
returns-clause-spare g c = search rules
