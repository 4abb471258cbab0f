use Rattle.node_pool.specs.{Cell.cell_at, declared.cells.Cell.TheVariants.Used}
use Rattle.node_pool.proofs.Writes.{IsCopied, IsShifting}
use Rattle.node_pool.proofs.cells.shift.Given as goal

abbrev pub invariant-loop-i : goal.invariant-loop-i
invariant-loop-i g l = IsCopied (cell_at l.fn.cells) (cell_at l.cells) l.from l.size l.to l.i

abbrev pub invariant-loop-j : goal.invariant-loop-j
invariant-loop-j g l = IsShifting (cell_at l.fn.cells) (cell_at l.cells) l.from l.size l.gap (Used l.fn.value) l.to l.j
