use Rattle.std.proofs.Common.{arith}
use Rattle.tree_bitmap.proofs.Covering.{covers_four, covers_one, table_entry}
use Rattle.tree_bitmap.proofs.node.covers.Goals as goal

pub returns-then-depth-eq8 : goal.returns-then-depth-eq8
returns-then-depth-eq8 c = rw c.if-depth-eq8.true (λ k within. covers_one c.args.four k c.requires.small)

pub returns : goal.returns
returns c =
    rw (table_entry c.args.four c.requires.small)
    (λ k within. covers_four c.args.four c.args.depth k c.requires.small (omega (arith, c.requires.deep, c.if-depth-eq8.false)))
