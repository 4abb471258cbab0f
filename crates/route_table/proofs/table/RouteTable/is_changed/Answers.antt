use Rattle.std.proofs.Common.{ap, ◌∙◌, length, ltb}
use Rattle.route_table.proofs.RowReads.{changed_at}
use Rattle.route_table.proofs.table.RouteTable.is_changed.Goals as goal

pub returns : goal.returns
returns g c = ap (ltb 0) (c.len.ensures ∙ ap length (changed_at _ _ _ c.self.view_is _ c.self.invariant.differing c.self.inside.rows.sorted))
