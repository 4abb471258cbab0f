use Rattle.std.proofs.Common.{◌≡◌, ◌++◌, ◌+◌, ◌≤◌, map, length, vec_len}
use Rattle.std.specs.{Vec.vec_capacity, Vec.Iter.into_iter_items}
use Rattle.fabric.specs.Desks.{desk_in}
use Rattle.fabric.proofs.desk.seat_all.Given as goal

abbrev pub invariant-loop-writer : goal.invariant-loop-writer
invariant-loop-writer g l =
    (l.desks.items ++ map desk_in (into_iter_items l.writers) ≡ map desk_in l.fn.writers.items)
    × (vec_len l.desks + length (into_iter_items l.writers) ≤ vec_capacity l.desks)

abbrev pub decreases-loop-writer : goal.decreases-loop-writer
decreases-loop-writer g l = length (into_iter_items l.writers)
