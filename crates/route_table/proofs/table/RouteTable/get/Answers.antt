use Rattle.std.proofs.Common.{sym, ◌∙◌}
use Rattle.route_table.proofs.RowReads.{control_at}
use Rattle.route_table.proofs.table.RouteTable.get.Goals as goal

pub returns-in_err-get : goal.returns-in_err-get
returns-in_err-get g c = c.from_residual.ensures ∙ sym (control_at _ _ _ c.self.view_is _ _ (sym c.get.ensures ∙ c.in_err-get.was))

pub returns : goal.returns
returns g c = sym (control_at _ _ _ c.self.view_is _ _ (sym c.get.ensures ∙ c.in_ok-get.was))
