use Rattle.std.proofs.Common.{◌≡◌, ◌≤◌, ◌-◌, map, length, take, drop}
use Rattle.array_bitmap.specs.Cursor.{rows_onward}
use Rattle.lookup_calls.specs.Prefixes.{listed_row}
use Rattle.lookup_calls.proofs.prefixes.list_rows.Given as goal

abbrev pub invariant-loop-count : goal.invariant-loop-count
invariant-loop-count l = record {
  room : length l.rows ≡ length l.fn.rows;
  within : l.count ≤ length l.rows;
  there : l.count ≤ length (rows_onward l.fn.from (l.image).rows);
  first : take l.count l.rows ≡ map listed_row (take l.count (rows_onward l.fn.from (l.image).rows));
  rest : drop l.count l.rows ≡ drop l.count l.fn.rows;
  others : rows_onward l.at (l.image).rows ≡ drop l.count (rows_onward l.fn.from (l.image).rows);
}

abbrev pub decreases-loop-count : goal.decreases-loop-count
decreases-loop-count l = length l.rows - l.count
