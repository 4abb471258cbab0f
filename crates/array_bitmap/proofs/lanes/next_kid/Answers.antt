use Rattle.std.proofs.Common.{◌-◌, sym}
use Rattle.array_bitmap.specs.Image.{cells_of}
use Rattle.array_bitmap.proofs.Lookups.{block_is, next_block}
use Rattle.array_bitmap.proofs.lanes.next_kid.Goals as goal

pub read_kid-requires-clause-is_block : goal.read_kid-requires-clause-is_block
read_kid-requires-clause-is_block g c = block_is (cells_of c.args.tree.now) c.requires.sound.cells c.args.path (c.args.level - c.args.tree.now.first) c.args.block c.requires.at

pub returns-clause-some : goal.returns-clause-some
returns-clause-some g c = λ one.
    next_block (cells_of c.args.tree.now) c.args.path c.args.level c.five_bits.result c.args.block c.read_kid.result.place c.requires.low c.requires.at c.five_bits.ensures.value (c.read_kid.ensures.some one)

pub returns-clause-none : goal.returns-clause-none
returns-clause-none g c = λ zero.
    sym (next_block (cells_of c.args.tree.now) c.args.path c.args.level c.five_bits.result c.args.block 0 c.requires.low c.requires.at c.five_bits.ensures.value (sym (c.read_kid.ensures.none zero)))
