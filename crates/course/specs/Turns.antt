-- Steps that routers do in turn.
use Rattle.std.specs.Prelude.{◌≡◌, ℕ, ◌+◌, ◌^◌, ◌≤◌, ◌⊎◌, ⊤, Bool, false, if◌then◌else◌, List, [], ◌∷◌, length, Option, Some, None, option_and_then}
use Rattle.network_model.specs.{declared.step.Step.Step, declared.step.Refusal.Refusal, declared.step.Refusal.TheVariants.JournalFull, declared.step.Refusal.TheVariants.NoMemory, World.World, Step.next, Run.Runs, Turns.is_settled, Turns.next_step}
use Rattle.course.specs.Course.{Course, course_after_all}

-- what router i has to do next, if that is not shut
abbrev pub open_step : (Step → Bool) → World → ℕ → Option Step
open_step shut w i = option_and_then (λ s. if shut s then None else Some s) (next_step w i)

-- nothing is shut
abbrev pub none_shut : Step → Bool
none_shut s = false

-- the step is what some router has to do next
abbrev pub IsNextStep : World → Step → Type 0
IsNextStep w s = (i : ℕ) × (next_step w i ≡ Some s)

-- so is each of these steps, where it is done
abbrev pub AreNextSteps : World → List Step → Type 0
AreNextSteps w [] = ⊤
AreNextSteps w (s ∷ ss) = IsNextStep w s × AreNextSteps (next w s) ss

-- the one course is the other with so many steps more, each lawful, and what some router had to do next
pub record HasTakenTurns (old new : Course) (done : ℕ) : Type 0 where
  pub steps : List Step
  pub count : length steps ≡ done
  pub turns : AreNextSteps old.world steps
  pub runs : Runs old.world steps new.world
  pub after : new ≡ course_after_all old steps

-- why turns end though something is left to do: no further step can be counted, or there is no memory for the next
pub record IsCourseStopped (c : Course) (e : Refusal) : Type 0 where
  pub unsettled : is_settled c.world ≡ false
  pub cause : ((e ≡ JournalFull) × (2 ^ 64 ≤ c.steps + 1)) ⊎ (e ≡ NoMemory)
