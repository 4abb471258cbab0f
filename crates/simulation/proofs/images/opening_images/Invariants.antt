use Rattle.std.proofs.Common.{◌≡◌, map, take}
use Rattle.course.specs.Images.{chosen_image}
use Rattle.simulation.proofs.images.opening_images.Given as goal

abbrev pub invariant-loop-router : goal.invariant-loop-router
invariant-loop-router g l = l.images.items ≡ map chosen_image (take l.router-index l.router-items)
