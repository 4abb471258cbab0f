use Rattle.std.proofs.Common.{rules}
use Rattle.array_bitmap.proofs.tree.put_longest.Goals as goal

pub returns-clause-inside : goal.returns-clause-inside
returns-clause-inside g c = search rules
