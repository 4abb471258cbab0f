use Rattle.std.proofs.Common.{◌↔◌, IsTrue, subst}
use Rattle.simulation.specs.Headline.{HasBestRows}
use Rattle.timed_simulation.specs.{Timed.Timed, Due.NothingIsDue, Runs.IsAtRest}
use Rattle.timed_simulation.proofs.timed.TimedSimulation.is_at_rest.Goals as goal

pub returns-clause-rest : goal.returns-clause-rest
returns-clause-rest g c = subst (λ (t : Timed). IsTrue c.is_at_rest.result ↔ IsAtRest t) c.self.view_is c.is_at_rest.ensures.rest

pub returns-clause-nothing : goal.returns-clause-nothing
returns-clause-nothing g c = subst (λ (t : Timed). IsTrue c.is_at_rest.result ↔ NothingIsDue t) c.self.view_is c.is_at_rest.ensures.nothing

pub returns-clause-least_cost : goal.returns-clause-least_cost
returns-clause-least_cost g c = subst (λ (t : Timed). IsTrue c.is_at_rest.result → HasBestRows t.simulation) c.self.view_is c.is_at_rest.ensures.least_cost
