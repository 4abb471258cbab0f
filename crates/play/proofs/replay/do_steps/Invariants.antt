use Rattle.std.proofs.Common.{◌≡◌, ◌≤◌, take}
use Rattle.network_model.specs.{Journal.most_steps, Run.Runs}
use Rattle.play.proofs.replay.do_steps.Given as goal

abbrev pub invariant-loop-done : goal.invariant-loop-done
invariant-loop-done g l = record {
  runs : Runs l.initial.live.simulation.world (take l.done l.steps) l.live.simulation.world;
  counted : l.live.simulation.steps ≡ l.done;
  few : l.done ≤ most_steps;
}
