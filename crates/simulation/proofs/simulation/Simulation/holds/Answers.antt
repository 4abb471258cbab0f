use Rattle.simulation.specs.Simulation.{with_images}
use Rattle.simulation.proofs.Headline.{never_twice}
use Rattle.simulation.proofs.simulation.Simulation.holds.Goals as goal

pub returns-clause-no_loop : goal.returns-clause-no_loop
returns-clause-no_loop g c = rw (← c.self.view_is) (never_twice (with_images c.self.inside.course c.self.inside.images.items) c.self.invariant c.holds.ensures.headline.no_loop)
