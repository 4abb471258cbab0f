use Rattle.std.proofs.Common.{rules}
use Rattle.tree_bitmap.proofs.tree.Tree.read.Goals as goal

pub returns-clause-count : goal.returns-clause-count
returns-clause-count g c = search rules
