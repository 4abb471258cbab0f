use Rattle.std.proofs.Common.{subst}
use Rattle.simulation.specs.{Headline.ConvergesLeftAlone, Headline.LeadsAtLeastCost, Headline.NeverMeetsTwice, Simulation.ForwardsAsPublished}
use Rattle.timed_simulation.specs.{Timed.Timed, Due.NothingIsLate, Due.NothingIsLeftOut, Runs.IsTimed}
use Rattle.timed_simulation.proofs.timed.TimedSimulation.holds.Goals as goal

pub returns-clause-timed : goal.returns-clause-timed
returns-clause-timed g c = subst IsTimed c.self.view_is c.holds.ensures.timed

pub returns-clause-on_time : goal.returns-clause-on_time
returns-clause-on_time g c = subst NothingIsLate c.self.view_is c.holds.ensures.on_time

pub returns-clause-whole : goal.returns-clause-whole
returns-clause-whole g c = subst NothingIsLeftOut c.self.view_is c.holds.ensures.whole

pub returns-clause-forwards : goal.returns-clause-forwards
returns-clause-forwards g c = subst (λ (t : Timed). ForwardsAsPublished t.simulation) c.self.view_is c.holds.ensures.forwards

pub returns-clause-no_loop : goal.returns-clause-no_loop
returns-clause-no_loop g c = subst (λ (t : Timed). NeverMeetsTwice t.simulation) c.self.view_is c.holds.ensures.no_loop

pub returns-clause-least_cost : goal.returns-clause-least_cost
returns-clause-least_cost g c = subst (λ (t : Timed). LeadsAtLeastCost t.simulation) c.self.view_is c.holds.ensures.least_cost

pub returns-clause-converges : goal.returns-clause-converges
returns-clause-converges g c = subst (λ (t : Timed). ConvergesLeftAlone t.simulation) c.self.view_is c.holds.ensures.converges
