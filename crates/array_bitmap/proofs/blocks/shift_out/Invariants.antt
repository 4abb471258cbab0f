use Rattle.std.proofs.Common.{◌≡◌, ◌<◌, ◌≤◌, ◌+◌, ℕ}
use Rattle.word_pool.specs.{Heap.size_of, Heap.word_of, Heap.SameOthers, Pool.blocks}
use Rattle.array_bitmap.proofs.blocks.shift_out.Given as goal

abbrev pub invariant-loop-i : goal.invariant-loop-i
invariant-loop-i g l = record {
  others : SameOthers (blocks l.fn.pool) (blocks l.pool) l.block;
  size : size_of (blocks l.pool l.block) ≡ size_of (blocks l.fn.pool l.block);
  low : (i : ℕ) → i < l.at → word_of (blocks l.pool l.block) i ≡ word_of (blocks l.fn.pool l.block) i;
  moved : (i : ℕ) → l.at ≤ i → i + 1 < l.i → word_of (blocks l.pool l.block) i ≡ word_of (blocks l.fn.pool l.block) (i + 1);
  ahead : (i : ℕ) → l.i ≤ i → word_of (blocks l.pool l.block) i ≡ word_of (blocks l.fn.pool l.block) i;
}
