use Rattle.std.proofs.Common.{◌≡◌, ◌<◌, ◌≤◌, ◌+◌, ℕ}
use Rattle.word_pool.specs.{Heap.size_of, Heap.word_of, Heap.SameOthers, Pool.blocks}
use Rattle.array_bitmap.proofs.blocks.shift_in.Given as goal

abbrev pub invariant-loop-end : goal.invariant-loop-end
invariant-loop-end g l = record {
  low : l.at ≤ l.end;
  high : l.end ≤ l.used;
  others : SameOthers (blocks l.fn.pool) (blocks l.pool) l.block;
  size : size_of (blocks l.pool l.block) ≡ size_of (blocks l.fn.pool l.block);
  before : (i : ℕ) → i ≤ l.end → word_of (blocks l.pool l.block) i ≡ word_of (blocks l.fn.pool l.block) i;
  after : (i : ℕ) → l.end ≤ i → i < l.used → word_of (blocks l.pool l.block) (i + 1) ≡ word_of (blocks l.fn.pool l.block) i;
}

abbrev pub decreases-loop-end : goal.decreases-loop-end
decreases-loop-end g l = l.end
