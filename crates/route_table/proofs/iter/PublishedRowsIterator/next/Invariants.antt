use Rattle.std.proofs.Common.{◌≡◌, length}
use Rattle.route_table.specs.Rows.{published_rows}
use Rattle.route_table.proofs.iter.PublishedRowsIterator.next.Given as goal

-- the rows that were passed are not published
abbrev pub invariant-loop-prefix : goal.invariant-loop-prefix
invariant-loop-prefix l = published_rows l.self-inside.rows.now ≡ l.fn.self

abbrev pub decreases-loop-prefix : goal.decreases-loop-prefix
decreases-loop-prefix l = length l.self-inside.rows.now
