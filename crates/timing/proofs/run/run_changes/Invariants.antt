use Rattle.std.proofs.Common.{◌≡◌, ◌+◌, length}
use Rattle.timed_reports.specs.Recordings.{timed_in}
use Rattle.timing.specs.Runs.{Leads}
use Rattle.timing.proofs.run.run_changes.Given as goal

abbrev pub invariant-loop-done : goal.invariant-loop-done
invariant-loop-done l = record {
  leads : Leads (timed_in l.initial.recording) l.begun.items (timed_in l.recording);
  left : length (timed_in l.recording).changes + l.done ≡ l.count;
}
