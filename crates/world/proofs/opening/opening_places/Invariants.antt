use Rattle.std.proofs.Common.{◌≡◌, map, take}
use Rattle.no_packet_loops.proofs.Common.{range_with_len, places_from}
use Rattle.world.proofs.opening.opening_places.Given as goal

abbrev pub invariant-loop-i : goal.invariant-loop-i
invariant-loop-i g l = map (λ v. v.items) l.places.items ≡ map (λ j. places_from 0 j (take l.i (l.network).links)) (range_with_len 0 (l.network).routers)
