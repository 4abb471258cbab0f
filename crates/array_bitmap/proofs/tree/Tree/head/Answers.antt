use Rattle.std.proofs.Common.{◌-◌}
use Rattle.word_pool.specs.Pool.{blocks}
use Rattle.array_bitmap.specs.Image.{cells_of}
use Rattle.array_bitmap.proofs.{Lookups.block_is, PoolWords.block_head}
use Rattle.array_bitmap.proofs.tree.Tree.head.Goals as goal

pub head_of-requires : goal.head_of-requires
head_of-requires g c =
    block_head (blocks c.args.self.now.pool) c.args.block
    (block_is (cells_of c.args.self.now) c.requires.sound.cells c.args.path (c.args.level - c.args.self.now.first) c.args.block c.requires.at)
