use Rattle.word_pool.specs.Pool.{blocks}
use Rattle.array_bitmap.specs.Changes.{Copies}
use Rattle.array_bitmap.proofs.blocks.copy_words.Given as goal

abbrev pub invariant-loop-i : goal.invariant-loop-i
invariant-loop-i g l = Copies (blocks l.fn.pool) (blocks l.pool) l.from l.to l.i
