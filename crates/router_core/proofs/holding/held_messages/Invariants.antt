use Rattle.std.proofs.Common.{◌≡◌, take}
use Rattle.router_core.proofs.holding.held_messages.Given as goal

abbrev pub invariant-loop-place : goal.invariant-loop-place
invariant-loop-place l = (l.messages).items ≡ take l.place (l.router).gate.held
