use Rattle.timed_reports.specs.Recordings.{timed_in}
use Rattle.timing.specs.Steps.{IsDoneAt}
use Rattle.timing.proofs.steps.do_all.Given as goal

abbrev pub invariant-loop : goal.invariant-loop
invariant-loop l = IsDoneAt (timed_in l.initial.recording) l.steps.items l.moments.items (timed_in l.recording)
