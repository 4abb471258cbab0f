use Rattle.std.proofs.Common.{◌-◌, length, take}
use Rattle.network_model.proofs.Common.{Runs, opening}
use Rattle.world.specs.Steps.{HasRoomForSteps}
use Rattle.run_states.specs.Recorders.{IsCurrent, IsRecorderOf}
use Rattle.run_states.proofs.Telling.{Telling}
use Rattle.run_states.proofs.states.write_steps.Given as goal

abbrev pub invariant-loop-before : goal.invariant-loop-before
invariant-loop-before g l = record {
  room : HasRoomForSteps (length l.steps - l.before) l.world;
  runs : Runs (opening l.network) (take l.before l.steps) l.world;
  of : IsRecorderOf l.world l.recorder;
  current : IsCurrent l.world l.recorder;
  told : Telling l.network l.directory l.steps l.moments l.every l.before l.initial.recorder l.recorder (g.W.Write.contents l.initial.out) (g.W.Write.contents l.out);
}
