use Rattle.std.proofs.Common.{subst}
use Rattle.simulation.specs.{Simulation.with_images, Tracing.HasImageWays}
use Rattle.simulation.proofs.Walks.{short_ways}
use Rattle.simulation.proofs.simulation.Simulation.router_count.Goals as goal

pub returns-clause-ways : goal.returns-clause-ways
returns-clause-ways g c =
    subst HasImageWays c.self.view_is
    (short_ways (with_images c.self.inside.course c.self.inside.images.items) c.self.invariant c.holds.ensures.headline.no_loop c.holds.ensures.ways)
