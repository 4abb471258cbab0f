use Rattle.std.proofs.Common.{ap, ◌∙◌}
use Rattle.std.specs.FinMap.{is_sorted}
use Rattle.ipv4_prefix.specs.Prefix.{prefix_cmp}
use Rattle.route_table.specs.{declared.row.Row.Row, Rows.control_rows}
use Rattle.network_model.proofs.RowLaws.{sorted-map}
use Rattle.route_table.proofs.table.RouteTable.rows.Goals as goal

pub returns-clause-sorted : goal.returns-clause-sorted
returns-clause-sorted g c =
    let rows = c.self.inside.rows in
    ap (is_sorted prefix_cmp) (c.new.ensures ∙ ap control_rows c.as_slice.ensures) ∙ sorted-map prefix_cmp (λ (r : Row). r.control) rows.entries.items ∙ rows.sorted
