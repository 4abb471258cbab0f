use Rattle.std.proofs.Common.{rules}
use Rattle.publication.proofs.ticket.Ticket.is_of.Goals as goal

pub returns-then-router-clause-its : goal.returns-then-router-clause-its
returns-then-router-clause-its g c = search rules

pub returns-clause-its : goal.returns-clause-its
returns-clause-its g c = search rules
