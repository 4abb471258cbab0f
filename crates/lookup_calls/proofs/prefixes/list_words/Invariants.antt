use Rattle.std.proofs.Common.{◌≡◌, ◌≤◌, ◌-◌, map, length, take, drop}
use Rattle.array_bitmap.specs.Cursor.{rows_onward}
use Rattle.lookup_calls.specs.Prefixes.{listed_row, listed_word}
use Rattle.lookup_calls.proofs.prefixes.list_words.Given as goal

abbrev pub invariant-loop-count : goal.invariant-loop-count
invariant-loop-count l = record {
  room : length l.rows ≡ length l.fn.rows;
  as_many : length l.words ≡ length l.fn.words;
  within : l.count ≤ length l.rows;
  there : l.count ≤ length (rows_onward l.fn.from (l.image).rows);
  first : take l.count l.rows ≡ map listed_row (take l.count (rows_onward l.fn.from (l.image).rows));
  rest : drop l.count l.rows ≡ drop l.count l.fn.rows;
  first_words : take l.count l.words ≡ map listed_word (take l.count (rows_onward l.fn.from (l.image).rows));
  rest_words : drop l.count l.words ≡ drop l.count l.fn.words;
  others : rows_onward l.at (l.image).rows ≡ drop l.count (rows_onward l.fn.from (l.image).rows);
}

abbrev pub decreases-loop-count : goal.decreases-loop-count
decreases-loop-count l = length l.rows - l.count
