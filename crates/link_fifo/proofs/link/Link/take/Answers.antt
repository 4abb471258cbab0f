use Rattle.std.proofs.Common.{rules}
use Rattle.link_fifo.proofs.link.Link.take.Goals as goal

pub returns-in-A-clause-taken : goal.returns-in-A-clause-taken
returns-in-A-clause-taken g c = search rules

pub returns-in-B-clause-taken : goal.returns-in-B-clause-taken
returns-in-B-clause-taken g c = search rules
