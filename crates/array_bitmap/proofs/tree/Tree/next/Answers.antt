use Rattle.array_bitmap.specs.Image.{cells_of}
use Rattle.array_bitmap.proofs.Lookups.{block_is, next_block}
use Rattle.std.proofs.Common.{◌-◌}
use Rattle.array_bitmap.proofs.tree.Tree.next.Goals as goal

pub kid_by-requires-clause-is_block : goal.kid_by-requires-clause-is_block
kid_by-requires-clause-is_block g c = block_is (cells_of c.args.self.now) c.requires.sound.cells c.args.path (c.args.level - c.args.self.now.first) c.args.block c.requires.at

pub returns : goal.returns
returns g c =
    next_block (cells_of c.args.self.now) c.args.path c.args.level c.five_bits.result c.args.block c.kid_by.result c.requires.low c.requires.at c.five_bits.ensures.value c.kid_by.ensures
