use Rattle.std.proofs.Common.{None, Some, append-nil, sym}
use Rattle.timing.proofs.steps.do_next.Goals as goal

-- it was done
pub returns-in_ok-push-in-None-2 : goal.returns-in_ok-push-in-None-2
returns-in_ok-push-in-None-2 c = (record { event = c.args.event.now; refusal = None }, rw c.in-None.is at c.in_ok-do_event.ensures.ok, c.in_ok-push-in-None.ensures.items, c.in_ok-push-in-None-2.ensures.items)

-- it was taken off
pub returns-in-Some : goal.returns-in-Some
returns-in-Some c = (record { event = c.args.event.now; refusal = Some c.in-Some.field-0 }, rw c.in-Some.is at c.in_ok-do_event.ensures.ok, sym (append-nil _), sym (append-nil _))
