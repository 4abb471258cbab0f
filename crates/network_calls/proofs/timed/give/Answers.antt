use Rattle.std.proofs.Common.{nat_lt, subst, sym}
use Rattle.timed_reports.specs.Recordings.{timed_in}
use Rattle.network_calls.specs.{Failures.IsStatusByFailure, Times.moment_failure}
use Rattle.network_calls.proofs.Given.{not_taken, taken}
use Rattle.network_calls.proofs.timed.give.Goals as goal

pub returns-in-Ok-clause-status : goal.returns-in-Ok-clause-status
returns-in-Ok-clause-status c = taken (nat_lt c.args.moment (timed_in c.args.recording.now).clock) c.in-Ok.ensures.cause

pub returns-in-Err-clause-status : goal.returns-in-Err-clause-status
returns-in-Err-clause-status c =
    subst (IsStatusByFailure (moment_failure c.args.moment (timed_in c.args.recording.now))) (sym c.number.ensures.number)
    (not_taken (nat_lt c.args.moment (timed_in c.args.recording.now).clock) c.in-Err.fault c.in-Err.ensures.cause)
