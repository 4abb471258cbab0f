use Rattle.std.proofs.Common.{◌≡◌, ◌++◌, length, map, take}
use Rattle.row_words.proofs.cells.add_cells.Given as goal

abbrev pub invariant-loop-mark : goal.invariant-loop-mark
invariant-loop-mark g l = record {
  count : l.count ≡ length l.fn.cells.items;
  cells : l.cells.items ≡ l.fn.cells.items ++ map (λ r. r.1) (take l.mark-index l.rows);
}
