use Rattle.std.proofs.Common.{◌≡◌, None, Option, Err, subst, sym}
use Rattle.network_model.specs.declared.step.Step.{Step}
use Rattle.world.specs.Steps.{IsDoneOr}
use Rattle.simulation.specs.Simulation.{simulation_refusal}
use Rattle.network_calls.specs.{Calls.IsDoneOrFails, Calls.StepNeedsMemory, Steps.step_of, declared.failure.Failure.Failure, declared.failure.Failure.TheVariants.Refused}
use Rattle.network_calls.proofs.Ran.{reads, refused_as}
use Rattle.network_calls.proofs.stepped.read_and_step.Goals as goal

pub returns-in-Err-do_step-clause-cause : goal.returns-in-Err-do_step-clause-cause
returns-in-Err-do_step-clause-cause c =
    let read = c.in-Ok.ensures.ok in
    let Needs : Type 0 = StepNeedsMemory (step_of c.args.parts) c.args.simulation.now.world in
    subst (λ (o : Option Failure). IsDoneOrFails {X = Unit {0}} o Needs (Err (Refused c.in-Err-do_step.refusal))) (sym (reads c.args.parts c.args.simulation.now read.0))
    (refused_as Needs (simulation_refusal c.args.simulation.now (step_of c.args.parts)) c.in-Err-do_step.refusal
    (subst (λ (s : Step). IsDoneOr {X = Unit {0}} (simulation_refusal c.args.simulation.now s) (Err c.in-Err-do_step.refusal)) read.1 c.in-Err-do_step.ensures.cause)
    (subst (λ (s : Step). simulation_refusal c.args.simulation.now s ≡ None → StepNeedsMemory s c.args.simulation.now.world) read.1 c.in-Err-do_step.ensures.memory))
