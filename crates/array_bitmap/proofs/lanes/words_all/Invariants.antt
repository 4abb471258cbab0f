use Rattle.std.proofs.Common.{ℕ, ◌≡◌, ◌<◌, ◌≤◌, length}
use Rattle.array_bitmap.specs.{Image.cells_of, Lane.AreLanes, Lane.IsCared}
use Rattle.array_bitmap.proofs.lanes.words_all.Given as goal

abbrev pub invariant-loop-level : goal.invariant-loop-level
invariant-loop-level g l = record {
  lanes : AreLanes (cells_of l.tree) l.level l.addrs l.lanes l.live;
  few : l.live ≤ 32;
  count : length l.heads ≡ 32;
  words : length l.words ≡ length l.fn.words;
  cared : (a : ℕ) → a < length l.addrs → IsCared (cells_of l.tree) l.level l.addrs l.lanes l.live l.words a;
}
