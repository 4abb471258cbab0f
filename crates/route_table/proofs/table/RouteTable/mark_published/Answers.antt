use Rattle.route_table.proofs.Publication.{table-marked}
use Rattle.route_table.proofs.Kept.{all_in_force, in_force_fits, kept_published, length-in_force}
use Rattle.route_table.proofs.table.RouteTable.mark_published.Goals as goal

pub put_in_force-requires : goal.put_in_force-requires
put_in_force-requires g c = rw c.as_slice.ensures (in_force_fits _ _ _ _ c.self.inside.rows.sorted c.self.invariant)

pub invariant_of-self : goal.invariant_of-self
invariant_of-self g c =
    let put = c.put_in_force.ensures in
    let clear = c.clear.ensures in
    rw (put.rows, put.capacity, clear.rows, clear.capacity, c.as_slice.ensures) (kept_published _ _ _ _ c.self.inside.rows.sorted c.self.invariant)

pub returns-clause-table : goal.returns-clause-table
returns-clause-table g c =
    let kept = all_in_force c.self.inside.rows.entries.items _ _ _ c.self.inside.rows.sorted c.self.invariant in
    rw (c.put_in_force.ensures.rows, c.as_slice.ensures, kept, ← c.self.view_is) (table-marked c.self.inside.rows.entries.items)

pub returns-clause-room : goal.returns-clause-room
returns-clause-room g c =
    let kept = length-in_force _ _ _ _ c.self.inside.rows.sorted c.self.invariant in
    rw (c.clear.ensures.capacity, c.put_in_force.ensures.rows, c.as_slice.ensures, kept, ← c.self.view_is)
