use Rattle.std.proofs.Common.{◌≡◌, ◌++◌, take}
use Rattle.network_model.specs.Run.{Runs}
use Rattle.fabric.proofs.fabric.Fabric.run.Given as goal

abbrev pub invariant-loop-done : goal.invariant-loop-done
invariant-loop-done g l = record {
  runs : Runs l.initial.self.world (take l.done l.steps) l.self.world;
  journal : l.self.journal ≡ l.initial.self.journal ++ take l.done l.steps;
  network : l.self.network ≡ l.initial.self.network;
}
