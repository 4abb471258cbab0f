use Rattle.std.proofs.Common.{rules}
use Rattle.tree_bitmap.proofs.lanes.longer_hit.Goals as goal

pub returns-then-matched-eq0 : goal.returns-then-matched-eq0
returns-then-matched-eq0 c = search rules

pub returns : goal.returns
returns c = search rules
