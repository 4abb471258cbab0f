use Rattle.node_pool.specs.Cell.{cell_at, IsFilled}
use Rattle.node_pool.proofs.cells.fill.Given as goal

abbrev pub invariant-loop-i : goal.invariant-loop-i
invariant-loop-i g l = IsFilled (cell_at l.fn.cells) (cell_at l.cells) l.base l.i l.cell
