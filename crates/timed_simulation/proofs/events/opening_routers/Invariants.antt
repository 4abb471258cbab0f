use Rattle.std.proofs.Common.{◌≡◌, map, take}
use Rattle.timed_simulation.specs.Timed.{opening_router_time}
use Rattle.timed_simulation.proofs.events.opening_routers.Given as goal

abbrev pub invariant-loop-delay : goal.invariant-loop-delay
invariant-loop-delay g l = (l.routers).items ≡ map opening_router_time (take l.delay-index l.delays)
