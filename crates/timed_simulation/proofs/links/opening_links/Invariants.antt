use Rattle.std.proofs.Common.{◌≡◌, map, take}
use Rattle.timed_simulation.specs.Links.{link_of, opening_directions}
use Rattle.timed_simulation.proofs.links.opening_links.Given as goal

abbrev pub invariant-loop-delay : goal.invariant-loop-delay
invariant-loop-delay g l = map link_of (l.links).items ≡ map opening_directions (take l.delay-index l.delays)
