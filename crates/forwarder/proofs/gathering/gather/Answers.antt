use Rattle.std.proofs.Common.{rules}
use Rattle.forwarder.proofs.Counts.{ordered, each, only}
use Rattle.forwarder.proofs.gathering.gather.Goals as goal

pub returns-clause-order : goal.returns-clause-order
returns-clause-order g c = ordered c.args.jobs.now c.args.replies.items _ (search rules) c.in_order.ensures.given c.in_order.ensures.order

pub returns-clause-each : goal.returns-clause-each
returns-clause-each g c = each c.args.jobs.now c.args.replies.items _ (search rules) c.in_order.ensures.given (search rules)

pub returns-clause-only : goal.returns-clause-only
returns-clause-only g c = only c.args.jobs.now c.args.replies.items _ (search rules) c.in_order.ensures.given
