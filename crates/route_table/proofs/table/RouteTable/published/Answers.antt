use Rattle.std.proofs.Common.{sym, ◌∙◌}
use Rattle.route_table.proofs.RowReads.{published_at}
use Rattle.route_table.proofs.table.RouteTable.published.Goals as goal

pub returns-in_err-get : goal.returns-in_err-get
returns-in_err-get g c = c.from_residual.ensures ∙ sym (published_at _ _ _ c.self.view_is _ _ (sym c.get.ensures ∙ c.in_err-get.was) c.self.inside.rows.sorted)

pub returns : goal.returns
returns g c = sym (published_at _ _ _ c.self.view_is _ _ (sym c.get.ensures ∙ c.in_ok-get.was) c.self.inside.rows.sorted)
