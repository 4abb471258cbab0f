use Rattle.std.proofs.Common.{ap, ◌∙◌, arith}
use Rattle.std.specs.{FinMap.is_sorted, Result.is_ok}
use Rattle.ipv4_prefix.specs.Prefix.{prefix_cmp}
use Rattle.route_table.proofs.PrefixPlaces.{written_row, sorted-written, new_row, sorted-insert, room_for_row}
use Rattle.route_table.proofs.prefix_map.PrefixMap.put.Goals as goal

-- the row is there, and its value is written over
pub invariant_of-self : goal.invariant_of-self
invariant_of-self g c = record { sorted = sorted-written _ c.in-Ok.place c.args.prefix c.index_mut.result.now c.args.value c.args.self.now.sorted c.in-Ok.ensures c.index_mut.ensures.value }

pub returns-in-Ok-clause-rows : goal.returns-in-Ok-clause-rows
returns-in-Ok-clause-rows g c = written_row _ c.in-Ok.place c.args.prefix c.index_mut.result.now c.args.value c.args.self.now.sorted c.in-Ok.ensures c.index_mut.ensures.value

-- the row is new, and goes between the others
pub invariant_of-self-in-Err : goal.invariant_of-self-in-Err
invariant_of-self-in-Err g c = record { sorted = ap (is_sorted prefix_cmp) c.insert.ensures.items ∙ sorted-insert _ c.in-Err.place c.args.prefix c.args.value (is_ok c.insert.result) c.args.self.now.sorted c.in-Err.ensures }

pub unwrap-requires : goal.unwrap-requires
unwrap-requires g c = c.insert.ensures.succeeds (omega (arith, room_for_row _ _ _ _ _ c.in-Err.ensures c.requires))

pub returns-in-Err-clause-rows : goal.returns-in-Err-clause-rows
returns-in-Err-clause-rows g c = rw c.unwrap.ensures at c.insert.ensures.items ∙ new_row _ c.in-Err.place c.args.prefix c.args.value c.in-Err.ensures

pub returns-in-Err-clause-capacity : goal.returns-in-Err-clause-capacity
returns-in-Err-clause-capacity g c = (c.insert.ensures.in_place (omega (arith, room_for_row _ _ _ _ _ c.in-Err.ensures c.requires))).1.0
