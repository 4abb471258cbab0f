use Rattle.std.proofs.Common.{◌-◌, length, take}
use Rattle.network_model.specs.Run.{Runs}
use Rattle.world.specs.Steps.{HasRoomForSteps}
use Rattle.world.proofs.world.World.run.Given as goal

abbrev pub invariant-loop-done : goal.invariant-loop-done
invariant-loop-done g l = record {
  runs : Runs l.initial.self (take l.done l.steps) l.self;
  room : HasRoomForSteps (length l.steps - l.done) l.self;
}
