use Rattle.std.proofs.Common.{◌≡◌, ◌∙◌, Some, ap, subst, sym}
use Rattle.timed_simulation.specs.{Events.next_event, Due.IsDue, Due.NothingIsDue}
use Rattle.timed_reports.specs.Recordings.{timed_in}
use Rattle.timing.specs.Runs.{snapshot_of}
use Rattle.timing.proofs.Alone.{ready_given, ready_some}
use Rattle.timing.proofs.run.begin.Goals as goal

pub returns-clause-ok : goal.returns-clause-ok
returns-clause-ok c =
    let next = subst (λ t. next_event t ≡ Some c.in-Some.event) c.timed.ensures (sym c.in-Some.ensures.next) in record {
      next = next;
      given = ready_given (timed_in c.args.recording.now) c.in-Some.event c.requires next (subst (λ t. IsDue t c.in-Some.event) c.timed.ensures c.in-Some.ensures.due);
      before = c.of-before.ensures ∙ ap snapshot_of c.timed-2.ensures;
      ends = c.in_ok-refusal.ensures.ok;
    }

-- a change is to come
pub unreachable-requires : goal.unreachable-requires
unreachable-requires c = ready_some (timed_in c.args.recording.now) c.requires (subst NothingIsDue c.timed.ensures (rw c.in_default.is at c.next_event.ensures.none))
