-- Steps that routers do in turn.
use Rattle.std.specs.Prelude.{◌≡◌, ℕ, List, length}
use Rattle.network_model.specs.{declared.step.Step.Step, declared.step.Refusal.Refusal, Run.Runs}
use Rattle.course.specs.Turns.{AreNextSteps, IsCourseStopped}
use Rattle.simulation.specs.Simulation.{Simulation, after_steps, course_part}

-- the one simulation is the other with so many steps more, each lawful, and what some router had to do next
pub record HasTurned (old new : Simulation) (done : ℕ) : Type 0 where
  pub steps : List Step
  pub count : length steps ≡ done
  pub turns : AreNextSteps old.world steps
  pub runs : Runs old.world steps new.world
  pub after : new ≡ after_steps old steps

-- why turns end though something is left to do: no further step can be counted, or there is no memory for the next
abbrev pub IsStopped : Simulation → Refusal → Type 0
IsStopped s e = IsCourseStopped (course_part s) e
