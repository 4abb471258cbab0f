use Rattle.std.proofs.Common.{◌≡◌, ◌++◌, ◌||◌, not, filter}
use Rattle.no_packet_loops.proofs.Common.{list_any, prefix_eq, has_row}
use Rattle.fabric.specs.Patches.{rows_to_set}
use Rattle.fabric.proofs.images.rows_named.Given as goal

abbrev pub invariant-loop-prefix : goal.invariant-loop-prefix
invariant-loop-prefix g l =
    l.rows.items ++ filter (λ r. not (has_row (l.fn.table).table.published r) || list_any (λ p. prefix_eq p r.0) l.fn.waiting) l.prefix-iterator ≡ rows_to_set (l.fn.table).table l.fn.waiting
