use Rattle.std.proofs.Common.{◌≡◌, ◌≤◌, ◌+◌, ◌++◌, drop, map}
use Rattle.network_model.specs.Step as step
use Rattle.router_core.proofs.effects.hold_all.Given as goal

abbrev pub invariant-loop-outgoing : goal.invariant-loop-outgoing
invariant-loop-outgoing g l = record {
  held : l.gate.gate.held ++ map (step.held_of l.ports l.prefix) (drop l.outgoing-index l.sent) ≡ l.initial.gate.gate.held ++ map (step.held_of l.ports l.prefix) l.sent;
  ripe : l.gate.gate.ripe ≡ l.initial.gate.gate.ripe;
  room : l.initial.gate.room ≤ l.gate.room + l.outgoing-index;
}
