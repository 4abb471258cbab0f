use Rattle.std.proofs.Common.{◌≡◌, ◌≤◌, ◌⊎◌}
use Rattle.timed_simulation.specs.Runs.{IsTimedRun}
use Rattle.timed_simulation.proofs.timed.TimedSimulation.do_events.Given as goal

abbrev pub invariant-loop-done : goal.invariant-loop-done
invariant-loop-done g l = record {
  run : IsTimedRun l.initial.self l.self l.done;
  until : (l.done ≡ 0) ⊎ ((l.self).clock ≤ l.moment);
}
