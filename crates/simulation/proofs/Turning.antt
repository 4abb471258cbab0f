-- Steps that routers do in turn.
use Rattle.std.proofs.Common.{ℕ}
use Rattle.course.specs.Turns.{HasTakenTurns}
use Rattle.simulation.specs.{Simulation.Simulation, Simulation.course_part, Simulation.IsSimulation, Settling.HasTurned}
use Rattle.simulation.proofs.Simulations.{after_course}

-- the turns of a course are those of the simulation
pub turned : (old new : Simulation) (done : ℕ) → IsSimulation old → IsSimulation new → HasTakenTurns (course_part old) (course_part new) done → HasTurned old new done
turned old new done was kept turns = record {
  steps = turns.steps;
  count = turns.count;
  turns = turns.turns;
  runs = turns.runs;
  after = after_course old new turns.steps was kept turns.after;
}
