use Rattle.std.proofs.Common.{ap, ◌∙◌}
use Rattle.std.specs.FinMap.{is_sorted}
use Rattle.ipv4_prefix.specs.Prefix.{prefix_cmp}
use Rattle.route_table.proofs.PrefixPlaces.{removed_row, sorted-removed, none_to_remove}
use Rattle.route_table.proofs.prefix_map.PrefixMap.remove.Goals as goal

pub invariant_of-self : goal.invariant_of-self
invariant_of-self g c = record { sorted = ap (is_sorted prefix_cmp) c.remove.ensures.items ∙ sorted-removed _ c.in-Ok.place c.args.prefix c.remove.result c.args.self.now.sorted c.in-Ok.ensures }

pub returns-in-Ok-clause-rows : goal.returns-in-Ok-clause-rows
returns-in-Ok-clause-rows g c = c.remove.ensures.items ∙ removed_row _ c.in-Ok.place c.args.prefix c.remove.result c.args.self.now.sorted c.in-Ok.ensures

pub returns-in_default-clause-rows : goal.returns-in_default-clause-rows
returns-in_default-clause-rows g c = none_to_remove _ _ _ c.in_default.ensures
