use Rattle.std.proofs.Common.{subst, vec_capacity}
use Rattle.no_packet_loops.proofs.Common.{IsNetwork}
use Rattle.fabric.specs.Writers.{fabric_seen}
use Rattle.fabric.proofs.{Headline.never_twice, WritersOut.lent_due}
use Rattle.fabric.proofs.fabric.Fabric.holds.Goals as goal

pub returns-clause-no_loop : goal.returns-clause-no_loop
returns-clause-no_loop g c =
    rw (← c.self.view_is) (never_twice (fabric_seen g.B.FabricName.openings c.self.inside.course.network c.self.inside.journal.items c.self.inside.course.world c.self.inside.desks.items) (vec_capacity c.self.inside.journal) c.self.invariant.0.0 (subst IsNetwork c.network.ensures.network c.routers-routers.ensures.valid))

pub returns-clause-pending : goal.returns-clause-pending
returns-clause-pending g c =
    rw (← c.self.view_is) (lent_due c.self.inside.course.world c.self.inside.desks.items c.self.invariant.0.2)
