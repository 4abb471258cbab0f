use Rattle.std.proofs.Common.{◌≡◌, drop}
use Rattle.timed_reports.specs.Recordings.{timed_in}
use Rattle.timing.specs.Runs.{with_changes}
use Rattle.timing.proofs.run.give.Given as goal

abbrev pub invariant-loop-change : goal.invariant-loop-change
invariant-loop-change l = with_changes (drop l.change-index l.changes) (timed_in l.recording) ≡ with_changes l.changes (timed_in l.initial.recording)
