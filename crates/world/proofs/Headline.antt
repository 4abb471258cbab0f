-- Runs that go on from a world to which a run of a network led.
use Rattle.std.proofs.Common.{List, ◌++◌}
use Rattle.no_packet_loops.proofs.Common.{Network, World, opening, Runs, Step}
use Rattle.all_packets.proofs.Ways.{always_no_circles}
use Rattle.quiet_routes.proofs.Routes.{quiet_routes}
use Rattle.convergence.proofs.Converging.{always_converges, runs_append}
use Rattle.world.specs.Headline.{IsReached, HasWorldHeadline}

-- a world to which more steps lead
pub reached_on : (n : Network) (w v : World) (ss : List Step) → IsReached n w → Runs w ss v → IsReached n v
reached_on n w v ss reached more = record {
  valid = reached.valid;
  steps = reached.steps ++ ss;
  runs = runs_append (opening n) reached.steps w ss v reached.runs more;
}

-- what holds there
pub sound_there : (n : Network) (w : World) → IsReached n w → HasWorldHeadline n w
sound_there n w reached = record {
  no_loop = always_no_circles n reached.steps w reached.valid reached.runs;
  least_cost = quiet_routes n reached.steps w reached.valid reached.runs;
  converges = always_converges n reached.steps w reached.valid reached.runs;
}
