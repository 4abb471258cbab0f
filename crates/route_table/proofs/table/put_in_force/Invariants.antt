use Rattle.std.proofs.Common.{◌≡◌, drop, vec_capacity}
use Rattle.route_table.specs.Rows.{with_in_force}
use Rattle.route_table.proofs.table.put_in_force.Given as goal

-- the rows with what is left to put are those with all of it put
abbrev pub invariant-loop-prefix : goal.invariant-loop-prefix
invariant-loop-prefix g l = record {
  so_far : with_in_force (drop l.prefix-index l.chosen) l.rows.entries.items ≡ with_in_force l.chosen l.initial.rows.entries.items;
  capacity : vec_capacity l.rows.entries ≡ vec_capacity l.initial.rows.entries;
}
