use Rattle.std.proofs.Common.{arith}
use Rattle.array_bitmap.specs.Image.{cells_of}
use Rattle.array_bitmap.proofs.Lookups.{longest_ends}
use Rattle.array_bitmap.proofs.tree.Tree.longest.Goals as goal

pub returns-then-block-eq0 : goal.returns-then-block-eq0
returns-then-block-eq0 g c =
    longest_ends (cells_of c.args.self.now) c.requires.sound.cells c.args.path c.loop-level.level c.next-block.result c.longest_to-best.result
    (omega arith) (omega arith) c.next-block.ensures c.if-block-eq0.true c.longest_to-best.ensures
