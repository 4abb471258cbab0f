use Rattle.std.proofs.Common.{arith}
use Rattle.bitmaps.proofs.HighestBit.{highest_bit}
use Rattle.tree_bitmap.proofs.node.highest.Goals as goal

pub returns : goal.returns
returns c = highest_bit 16 c.args.bits (omega (arith, c.if-bits-eq0.false)) (omega (arith, c.ranges.bits))
