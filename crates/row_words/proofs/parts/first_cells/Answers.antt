use Rattle.std.proofs.Common.{rules}
use Rattle.row_words.proofs.parts.first_cells.Goals as goal

pub returns-in_err-cells : goal.returns-in_err-cells
returns-in_err-cells g c = search rules

pub returns-in_err-push : goal.returns-in_err-push
returns-in_err-push g c = search rules

pub returns : goal.returns
returns g c = search rules
