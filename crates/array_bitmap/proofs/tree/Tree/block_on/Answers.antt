use Rattle.std.proofs.Common.{◌-◌, arith, sym}
use Rattle.array_bitmap.specs.Image.{cells_of}
use Rattle.array_bitmap.proofs.Lookups.{block_is, next_block}
use Rattle.array_bitmap.proofs.tree.Tree.block_on.Goals as goal

pub kid_of-block-requires-clause-is_block : goal.kid_of-block-requires-clause-is_block
kid_of-block-requires-clause-is_block g c =
    block_is (cells_of c.args.self.now) c.requires.sound.cells c.args.path (c.loop-d.d - c.args.self.now.first) c.loop-d.block (sym c.loop-d.invariant)

pub loop-d-preserved : goal.loop-d-preserved
loop-d-preserved g c =
    sym (next_block (cells_of c.args.self.now) c.args.path c.loop-d.d c.five_bits.result c.loop-d.block c.kid_of-block.result (omega arith) (sym c.loop-d.invariant) c.five_bits.ensures.value c.kid_of-block.ensures)
