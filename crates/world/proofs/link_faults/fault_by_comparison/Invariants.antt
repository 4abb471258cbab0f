use Rattle.std.proofs.Common.{◌≡◌, []}
use Rattle.no_packet_loops.proofs.Common.{first_cause, link_causes}
use Rattle.world.proofs.Faults.{link_causes_from}
use Rattle.world.proofs.link_faults.fault_by_comparison.Given as goal

abbrev pub invariant-loop-i : goal.invariant-loop-i
invariant-loop-i l = first_cause (link_causes_from l.limits l.routers l.links l.i) ≡ first_cause (link_causes l.limits l.routers [] l.links)
