use Rattle.std.proofs.Common.{rules, ◌≡◌, Result, Ok, Err, Option, None, Some, IfErr, inr, sym, ap, subst}
use Rattle.network_calls.specs.Calls.{HeldNeedsMemory, IsDoneOrFails, StepNeedsMemory, running_fault, step_fault}
use Rattle.network_calls.specs.{Failures.failure_number, Failures.IsStatusOnlyByFailure, Running.network_in, Steps.step_of, declared.failure.Failure.Failure, declared.running.Going.Going}
use Rattle.network_calls.specs.Handles.{handle_going}
use Rattle.network_calls.proofs.handle.NetworkHandle.step.Goals as goal

-- what a network refuses is told by its number
status_of : (Needs : Type 0) (o : Option Failure) (r : Result (Unit {0}) Failure) → IsDoneOrFails o Needs r → IfErr r (λ f. IsStatusOnlyByFailure o Needs (failure_number f))
status_of Needs None (Err f) h = inr (ap failure_number h.0, h.1)
status_of Needs (Some e) (Err f) h = let inner : ◌≡◌ {A = Result (Unit {0}) Failure} (Err f) (Err e) = h in (let same : f ≡ e = cc in ap failure_number same)
status_of Needs _ _ h = tt

-- the network that did the step is the one that the handle held
pub returns-clause-err : goal.returns-clause-err
returns-clause-err c =
    let b : Going = c.deref_mut.result.now in
    let is_held : handle_going c.args.self.now ≡ Some b = search rules in
    subst (λ (o : Option Going). IfErr c.read_and_step-outcome.result (λ f. IsStatusOnlyByFailure (step_fault c.args.parts o) (HeldNeedsMemory (step_of c.args.parts) o) (failure_number f))) (sym is_held)
    (status_of (StepNeedsMemory (step_of c.args.parts) (network_in b).world) (running_fault c.args.parts b) c.read_and_step-outcome.result c.read_and_step-outcome.ensures.cause)

pub returns-in-Err-clause-stepped : goal.returns-in-Err-clause-stepped
returns-in-Err-clause-stepped c = search rules

pub returns-in_default-take-clause-stepped : goal.returns-in_default-take-clause-stepped
returns-in_default-take-clause-stepped c = search rules

pub returns-clause-stepped : goal.returns-clause-stepped
returns-clause-stepped c = search rules
