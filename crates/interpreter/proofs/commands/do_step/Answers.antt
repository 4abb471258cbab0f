use Rattle.std.proofs.Common.{◌≡◌, refl}
use Rattle.network_model.specs.Kinds.{refusal_kind}
use Rattle.world.specs.Steps.{CanBeRefused}
use Rattle.course.proofs.Courses.{refused_as}
use Rattle.script.proofs.Exits.{at_err}
use Rattle.plans.specs.Faults.{OfRefusal}
use Rattle.interpreter.proofs.commands.do_step.Goals as goal

pub returns-in_err-step-clause-err : goal.returns-in_err-step-clause-err
returns-in_err-step-clause-err g c =
    let cause = g.N.Live.meaning.refusal c.args.net.now c.args.step in
    let e = c.in_err-step.field-0.0 in
    at_err c.from_residual.result (λ kind. OfRefusal (CanBeRefused cause) kind × (c.step.new.self ≡ c.args.net.now)) (refusal_kind e) c.from_residual.ensures.1
    ((e, refl, refused_as _ cause e c.in_err-step.ensures.cause), c.in_err-step.ensures.err)
