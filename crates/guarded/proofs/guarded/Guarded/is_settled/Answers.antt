use Rattle.std.proofs.Common.{subst}
use Rattle.guarded.specs.Served.{HasHeadline}
use Rattle.guarded.proofs.guarded.Guarded.is_settled.Goals as goal

pub returns-clause-headline : goal.returns-clause-headline
returns-clause-headline g c = subst HasHeadline c.self.view_is (record { forwards = c.holds.ensures.forwards; no_loop = c.holds.ensures.no_loop; least_cost = c.holds.ensures.least_cost; converges = c.holds.ensures.converges })
