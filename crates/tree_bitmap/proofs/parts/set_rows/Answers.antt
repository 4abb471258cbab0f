use Rattle.std.proofs.Common.{rules}
use Rattle.tree_bitmap.proofs.parts.set_rows.Goals as goal

pub returns-in_err-reserve-clause-err : goal.returns-in_err-reserve-clause-err
returns-in_err-reserve-clause-err g c = search rules

pub returns-clause-err : goal.returns-clause-err
returns-clause-err g c = search rules
