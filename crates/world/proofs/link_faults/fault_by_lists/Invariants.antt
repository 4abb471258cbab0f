use Rattle.std.proofs.Common.{◌≡◌, [], map, filter, take}
use Rattle.no_packet_loops.proofs.Common.{range_with_len, first_cause, link_causes, touches}
use Rattle.world.proofs.Faults.{link_causes_from}
use Rattle.world.proofs.link_faults.fault_by_lists.Given as goal

abbrev pub invariant-loop-i : goal.invariant-loop-i
invariant-loop-i l = record {
  rest : first_cause (link_causes_from l.limits l.routers l.links l.i) ≡ first_cause (link_causes l.limits l.routers [] l.links);
  lists : map (λ v. v.items) l.lists.items ≡ map (λ j. filter (touches j) (take l.i l.links)) (range_with_len 0 l.routers);
}
