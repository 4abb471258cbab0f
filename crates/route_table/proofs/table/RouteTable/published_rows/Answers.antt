use Rattle.std.proofs.Common.{ap, ◌∙◌}
use Rattle.std.specs.FinMap.{is_sorted}
use Rattle.ipv4_prefix.specs.Prefix.{prefix_cmp}
use Rattle.route_table.specs.Rows.{published_rows}
use Rattle.route_table.proofs.InForce.{sorted-published}
use Rattle.route_table.proofs.table.RouteTable.published_rows.Goals as goal

pub returns-clause-sorted : goal.returns-clause-sorted
returns-clause-sorted g c =
    let rows = c.self.inside.rows in
    ap (is_sorted prefix_cmp) (c.new.ensures ∙ ap published_rows c.as_slice.ensures) ∙ sorted-published rows.entries.items rows.sorted
