-- What holds of every network that runs.
use Rattle.simulation.specs.{Headline.NeverMeetsTwice, Headline.LeadsAtLeastCost, Headline.ConvergesLeftAlone, Simulation.Simulation, Simulation.ForwardsAsPublished}

-- its images in force answer by longest match over what the routers published, no packet circles along them, at quiet they lead along
-- least-cost walks, and left alone it comes to rest there
pub record HasHeadline (s : Simulation) : Type 0 where
  pub forwards : ForwardsAsPublished s
  pub no_loop : NeverMeetsTwice s
  pub least_cost : LeadsAtLeastCost s
  pub converges : ConvergesLeftAlone s
