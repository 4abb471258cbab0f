use Rattle.std.proofs.Common.{arith}
use Rattle.route_table.proofs.Publication.{room_for_next}
use Rattle.route_table.proofs.table.put_in_force.Goals as goal

pub put-requires : goal.put-requires
put-requires g c =
    let loop = c.loop-prefix.invariant in
    let fits = c.requires in
    omega (arith, loop.capacity, room_for_next _ c.loop-prefix.prefix-index c.loop-prefix-item.result _ _ c.loop-prefix-test.true c.loop-prefix-item.is loop.so_far)
