use Rattle.word_pool.specs.Pool.{blocks}
use Rattle.array_bitmap.proofs.PoolWords.{block_head}
use Rattle.array_bitmap.proofs.blocks.kid_of.Goals as goal

pub head_of-requires : goal.head_of-requires
head_of-requires g c = block_head (blocks c.args.pool.now) c.args.block c.requires.is_block
