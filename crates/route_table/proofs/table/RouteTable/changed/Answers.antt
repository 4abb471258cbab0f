use Rattle.std.proofs.Common.{ap, ◌∙◌}
use Rattle.std.specs.FinMap.{is_sorted}
use Rattle.ipv4_prefix.specs.Prefix.{prefix_cmp}
use Rattle.network_model.specs.Publication.{with_rows}
use Rattle.route_table.proofs.{Patched.patched_at, RowReads.changed_at}
use Rattle.route_table.proofs.table.RouteTable.changed.Goals as goal

pub returns-clause-all : goal.returns-clause-all
returns-clause-all g c = c.new.ensures ∙ c.as_slice.ensures ∙ changed_at _ _ _ c.self.view_is _ c.self.invariant.differing c.self.inside.rows.sorted

pub returns-clause-sorted : goal.returns-clause-sorted
returns-clause-sorted g c = ap (is_sorted prefix_cmp) (c.new.ensures ∙ c.as_slice.ensures) ∙ c.self.inside.changed.sorted

pub returns-clause-patch : goal.returns-clause-patch
returns-clause-patch g c =
    let all = c.new.ensures ∙ c.as_slice.ensures ∙ changed_at _ _ _ c.self.view_is _ c.self.invariant.differing c.self.inside.rows.sorted in
    ap (λ rows. with_rows rows (c.args.self.now.table).published) all ∙ patched_at _ _ _ c.self.view_is c.self.inside.rows.sorted
