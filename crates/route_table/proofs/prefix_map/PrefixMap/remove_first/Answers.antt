use Rattle.std.proofs.Common.{ap, ◌∙◌}
use Rattle.std.specs.FinMap.{is_sorted}
use Rattle.ipv4_prefix.specs.Prefix.{prefix_cmp}
use Rattle.route_table.proofs.Forgotten.{sorted-drop}
use Rattle.route_table.proofs.prefix_map.PrefixMap.remove_first.Goals as goal

pub invariant_of-self : goal.invariant_of-self
invariant_of-self g c = record { sorted = ap (is_sorted prefix_cmp) (c.drop-drain.ensures.items ∙ c.drain.ensures.kept) ∙ sorted-drop c.args.count _ c.args.self.now.sorted }
