use Rattle.std.proofs.Common.{ℕ, ◌≡◌, ◌<◌, length}
use Rattle.array_bitmap.specs.{Blocks.IsHead, Image.cells_of, Tree.words_at, Lane.lane_at, Lane.head_at}
use Rattle.array_bitmap.proofs.lanes.read_heads.Given as goal

abbrev pub invariant-loop-i : goal.invariant-loop-i
invariant-loop-i g l = record {
  count : length l.heads ≡ length l.fn.heads;
  heads : (k : ℕ) → k < l.i → IsHead (words_at (cells_of l.tree) (lane_at l.lanes k).block) (head_at l.heads k);
}
