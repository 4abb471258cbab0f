use Rattle.std.proofs.Common.{◌≡◌, ◌++◌, ◌-◌, map}
use Rattle.no_packet_loops.proofs.Common.{range_with_len, opening_router_of}
use Rattle.world.proofs.opening.opening_routers.Given as goal

abbrev pub invariant-loop-router : goal.invariant-loop-router
invariant-loop-router g l = l.routers.items ++ map (opening_router_of l.network) (range_with_len l.router (l.router-end - l.router)) ≡ map (opening_router_of l.network) (range_with_len 0 l.router-end)
