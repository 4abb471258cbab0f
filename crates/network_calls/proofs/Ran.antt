-- Steps of C that are read and done, one after another.
use Rattle.std.proofs.Common.{refl, sym, ap, subst, ◌∙◌, arith, ◌≡◌, ℕ, ◌+◌, ◌<◌, List, [], ◌∷◌, ◌++◌, map, length, take, get_or, Option, Some, None, option_map, Result, Err, MatchOption}
use Rattle.network_model.proofs.Common.{option_map_or, map-append, take_more, slice_get-get_or, Lawful, Runs}
use Rattle.network_model.specs.declared.step.Refusal.{Refusal}
use Rattle.world.specs.Steps.{IsDoneOr}
use Rattle.world.proofs.Runs.{with_last_step}
use Rattle.simulation.specs.Simulation.{Simulation, after_step, after_steps, simulation_refusal}
use Rattle.simulation.proofs.Simulations.{after_push}
use Rattle.network_calls.specs.Calls.{running_fault, IsDoneOrFails, IsRanTo, StepNeedsMemory, StopsBy}
use Rattle.network_calls.specs.{Steps.parts_of_step_fault, Steps.step_of, declared.failure.Failure.Failure, declared.failure.Failure.TheVariants.Given, declared.failure.Failure.TheVariants.Refused, declared.running.Going.TheVariants.BySteps, declared.step.StepParts.StepParts}

-- nothing done
pub ran_none : (parts : List StepParts) (s : Simulation) → IsRanTo parts s s 0
ran_none parts s = record { within = omega arith; runs = refl; after = refl }

pub ran_more : (parts : List StepParts) (old mid new : Simulation) (done : ℕ) (p : StepParts) → IsRanTo parts old mid done → done < length parts → p ≡ get_or parts done p
    → Lawful mid.world (step_of p) → new ≡ after_step mid (step_of p) → IsRanTo parts old new (done + 1)
ran_more parts old mid new done p ran below read lawful is =
    let steps : map step_of (take (done + 1) parts) ≡ map step_of (take done parts) ++ step_of p ∷ [] =
    ap (map step_of) (take_more parts done p below ∙ ap (λ x. take done parts ++ x ∷ []) (sym read)) ∙ map-append step_of (take done parts) (p ∷ []) in
    record {
      within = omega (arith, below);
      runs = subst (λ ss. Runs old.world ss new.world) (sym steps)
          (subst (Runs old.world (map step_of (take done parts) ++ step_of p ∷ [])) (sym (ap (λ (x : Simulation). x.world) is))
          (with_last_step old.world (map step_of (take done parts)) mid.world (step_of p) ran.runs lawful));
      after = is ∙ ap (λ x. after_step x (step_of p)) ran.after ∙ sym (after_push old (map step_of (take done parts)) (step_of p)) ∙ sym (ap (after_steps old) steps);
    }

-- a step that was refused stops a run there
fails_as : (Needs : Type 0) (o : Option Failure) (f : Failure) → IsDoneOrFails {X = Unit {0}} o Needs (Err f) → MatchOption o ((f ≡ Refused Refusal.NoMemory) × Needs) (λ e. f ≡ e)
fails_as Needs None f h = h
fails_as Needs (Some e) f h = let inner : ◌≡◌ {A = Result (Unit {0}) Failure} (Err f) (Err e) = h in cc

pub stops : (parts : List StepParts) (mid new : Simulation) (done : ℕ) (p : StepParts) (f : Failure) → done < length parts → p ≡ get_or parts done p → new ≡ mid → IsDoneOrFails {X = Unit {0}} (running_fault p (BySteps mid)) (StepNeedsMemory (step_of p) mid.world) (Err f) → StopsBy parts new done (Err f)
stops parts mid new done p f below read same cause = (
  p,
  slice_get-get_or parts done p below ∙ ap Some (sym read),
  subst (λ (s : Simulation). MatchOption (running_fault p (BySteps s)) ((f ≡ Refused Refusal.NoMemory) × StepNeedsMemory (step_of p) s.world) (λ e. f ≡ e)) (sym same) (fails_as (StepNeedsMemory (step_of p) mid.world) (running_fault p (BySteps mid)) f cause),
)

-- what a step that was read is refused for
pub reads : (p : StepParts) (s : Simulation) → parts_of_step_fault p ≡ None → running_fault p (BySteps s) ≡ option_map (λ e. Refused e) (simulation_refusal s (step_of p))
reads p s none = ap (λ o. option_map_or (λ f. Some (Given f)) o (option_map (λ e. Refused e) (simulation_refusal s (step_of p)))) none

pub refused_as : (Needs : Type 0) (o : Option Refusal) (e : Refusal) → IsDoneOr {X = Unit {0}} o (Err e) → (o ≡ None → Needs) → IsDoneOrFails {X = Unit {0}} (option_map (λ x. Refused x) o) Needs (Err (Refused e))
refused_as Needs None e h needs = (ap (λ x. Refused x) h, needs refl)
refused_as Needs (Some c) e h needs = let inner : ◌≡◌ {A = Result (Unit {0}) Refusal} (Err e) (Err c) = h in (let same : e ≡ c = cc in ap (λ x. Err (Refused x)) same)
