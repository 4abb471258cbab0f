use Rattle.std.proofs.Common.{ℕ, ◌≡◌, ◌+◌, ◌<◌, ◌≤◌, length, slice_index}
use Rattle.array_bitmap.specs.{Image.cells_of, Lane.IsLane, Lane.lane_at}
use Rattle.array_bitmap.proofs.LanesDown.{AreCared}
use Rattle.array_bitmap.proofs.lanes.go_down.Given as goal

abbrev pub invariant-loop-i : goal.invariant-loop-i
invariant-loop-i g l = record {
  fewer : l.still ≤ l.i;
  many : length l.lanes ≡ length l.fn.lanes;
  words : length l.words ≡ length l.fn.words;
  lane : (k : ℕ) → k < l.still → IsLane (cells_of l.tree) (l.level + 1) (lane_at l.lanes k);
  at : (k : ℕ) → k < l.still → (lane_at l.lanes k).at < length l.addrs;
  addr : (k : ℕ) → k < l.still → (lane_at l.lanes k).addr ≡ slice_index l.addrs (lane_at l.lanes k).at;
  left : (k : ℕ) → l.i ≤ k → lane_at l.lanes k ≡ lane_at l.fn.lanes k;
  cared : (a : ℕ) → a < length l.addrs → AreCared (cells_of l.tree) l.level l.addrs l.lanes l.words l.live l.still l.i a;
}
