use Rattle.std.proofs.Common.{ℕ, ◌≡◌, ◌<◌, length, slice_index}
use Rattle.array_bitmap.specs.{Image.cells_of, Lane.IsLane, Lane.lane_at}
use Rattle.array_bitmap.proofs.lanes.begin_all.Given as goal

abbrev pub invariant-loop-i : goal.invariant-loop-i
invariant-loop-i g l = record {
  count : length l.lanes ≡ length l.fn.lanes;
  lane : (k : ℕ) → k < l.i → IsLane (cells_of l.tree) (l.tree).first (lane_at l.lanes k);
  at : (k : ℕ) → k < l.i → (lane_at l.lanes k).at ≡ k;
  addr : (k : ℕ) → k < l.i → (lane_at l.lanes k).addr ≡ slice_index l.addrs k;
}
