-- Why a step of a journal is refused.
use Rattle.std.specs.Prelude.{⊤}
use Rattle.std.proofs.Common.{◌≡◌, ◌+◌, ◌^◌, ◌<◌, ℕ, Some, if◌then◌else◌, Result, Ok, Err, IfErr, sym, subst, lt-ltb, arith}
use Rattle.network_model.proofs.Common.{most_steps, refusal}
use Rattle.network_model.specs.{declared.step.Refusal.Refusal, declared.step.Refusal.TheVariants.JournalFull, declared.step.Step.Step}
use Rattle.world.specs.Steps.{CanBeRefused, IsDoneOr}
use Rattle.course.proofs.Courses.{refused_as}
use Rattle.simulation.specs.Simulation.{Simulation, simulation_refusal}
use Rattle.play.specs.Replays.{replay_refusal}

-- the journal has a place, and so many steps can be counted
pub has_place : (c : Simulation) (done : ℕ) (s : Step) (r : Result ⊤ Refusal) → c.steps ≡ done → done < most_steps → IsDoneOr (simulation_refusal c s) r → IfErr r (CanBeRefused (replay_refusal c.world done s))
has_place c done s (Ok x) counted short is = tt
has_place c done s (Err e) counted short is =
    subst (λ b. CanBeRefused (if b then refusal c.world s else Some JournalFull) e) (sym (lt-ltb done most_steps short))
    (subst (λ b. CanBeRefused (if b then refusal c.world s else Some JournalFull) e) (lt-ltb (c.steps + 1) (2 ^ 64) (omega (arith, counted, short))) (refused_as _ (simulation_refusal c s) e is))
