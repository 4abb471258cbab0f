use Rattle.std.proofs.Common.{◌≡◌, map, take}
use Rattle.no_packet_loops.proofs.Common.{range_with_len}
use Rattle.world.proofs.CostsOfRouters.{own_rows}
use Rattle.world.proofs.opening.opening_costs.Given as goal

abbrev pub invariant-loop-attachment : goal.invariant-loop-attachment
invariant-loop-attachment g l = map (λ v. v.items) l.own.items ≡ map (λ i. own_rows i (take l.attachment-index l.attachment-items)) (range_with_len 0 (l.network).routers)
