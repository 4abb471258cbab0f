use Rattle.std.proofs.Common.{subst}
use Rattle.network_model.specs.Network.{IsNetwork}
use Rattle.no_packet_loops.proofs.Traces.{always_traces_end}
use Rattle.all_packets.proofs.Through.{always_through_ends}
use Rattle.course.proofs.Links.{leads_to_routers}
use Rattle.tracer.proofs.Walks.{follows_end}
use Rattle.tracer.proofs.walk.router_count.Goals as goal

pub returns-clause-routers : goal.returns-clause-routers
returns-clause-routers g c =
    leads_to_routers c.args.fabric.now.network c.journal-journal.result.now c.args.fabric.now.world c.journal-journal.ensures.runs (subst IsNetwork c.network.ensures.network c.routers.ensures.valid)

pub returns-clause-traces : goal.returns-clause-traces
returns-clause-traces g c =
    always_traces_end c.args.fabric.now.network c.journal-journal.result.now c.args.fabric.now.world (subst IsNetwork c.network.ensures.network c.routers.ensures.valid) c.journal-journal.ensures.runs

pub returns-clause-through : goal.returns-clause-through
returns-clause-through g c =
    always_through_ends c.args.fabric.now.network c.journal-journal.result.now c.args.fabric.now.world (subst IsNetwork c.network.ensures.network c.routers.ensures.valid) c.journal-journal.ensures.runs

pub returns-clause-ends : goal.returns-clause-ends
returns-clause-ends g c = follows_end c.args.fabric.now.world (returns-clause-traces g c) (returns-clause-through g c)
