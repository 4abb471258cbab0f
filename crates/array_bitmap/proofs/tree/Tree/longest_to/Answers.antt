use Rattle.array_bitmap.specs.Image.{cells_of}
use Rattle.array_bitmap.proofs.Lookups.{block_is, longest_next}
use Rattle.std.proofs.Common.{◌-◌}
use Rattle.array_bitmap.proofs.tree.Tree.longest_to.Goals as goal

pub word_after-requires-clause-is_block : goal.word_after-requires-clause-is_block
word_after-requires-clause-is_block g c = block_is (cells_of c.args.self.now) c.requires.sound.cells c.args.path (c.args.level - c.args.self.now.first) c.args.block c.requires.at

pub returns : goal.returns
returns g c =
    longest_next (cells_of c.args.self.now) c.requires.sound.cells c.args.path c.args.level c.five_bits.result c.args.block c.args.best c.covers.result c.word_after.result
    c.requires.fits c.requires.low c.requires.deep c.requires.at c.five_bits.ensures.value c.covers.ensures c.requires.above c.word_after.ensures
