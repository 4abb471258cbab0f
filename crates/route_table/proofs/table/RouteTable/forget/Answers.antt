use Rattle.std.proofs.Common.{arith}
use Rattle.route_table.proofs.{Forgotten.table-without, Forgotten.length-without, Kept.kept_without}
use Rattle.route_table.proofs.table.RouteTable.forget.Goals as goal

pub invariant_of-self : goal.invariant_of-self
invariant_of-self g c =
    let rows = c.remove.ensures in
    let changed = c.remove-2.ensures in
    rw (rows.rows, rows.capacity, changed.rows, changed.capacity) (kept_without _ _ _ _ c.self.inside.rows.sorted c.self.invariant c.args.prefix)

pub returns-clause-table : goal.returns-clause-table
returns-clause-table g c = rw (c.remove.ensures.rows, ← c.self.view_is) (table-without c.args.prefix c.self.inside.rows.entries.items)

pub returns-clause-room : goal.returns-clause-room
returns-clause-room g c = rw (c.remove.ensures.rows, c.remove-2.ensures.capacity, ← c.self.view_is) (omega (arith, length-without c.args.prefix c.self.inside.rows.entries.items))
