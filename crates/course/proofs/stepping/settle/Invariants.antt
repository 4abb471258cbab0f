use Rattle.course.specs.Turns.{HasTakenTurns}
use Rattle.course.proofs.stepping.settle.Given as goal

abbrev pub invariant-loop-done : goal.invariant-loop-done
invariant-loop-done g l = HasTakenTurns (g.M.Stepping.course l.initial.mover) (g.M.Stepping.course l.mover) l.done
