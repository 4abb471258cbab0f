use Rattle.std.proofs.Common.{◌≡◌, map, take}
use Rattle.timed_simulation.specs.Links.{link_of}
use Rattle.timed_simulation.proofs.links.copy_links.Given as goal

abbrev pub invariant-loop-link : goal.invariant-loop-link
invariant-loop-link g l = map link_of (l.copies).items ≡ map link_of (take l.link-index l.links)
