use Rattle.std.proofs.Common.{OnErr, ◌≡◌, inr, subst}
use Rattle.world.specs.Steps.{IsDoneOr}
use Rattle.course.proofs.Courses.{refused_as}
use Rattle.interpreter.proofs.commands.try_step.Goals as goal

pub returns-in-Err : goal.returns-in-Err
returns-in-Err g c =
    let cause = g.N.Live.meaning.refusal c.args.net.now c.args.step in
    inr (
      c.in-Err.refusal,
      refused_as _ cause c.in-Err.refusal (subst (λ r. IsDoneOr cause r) c.in-Err.is c.step.ensures.cause),
      subst (λ r. OnErr r (c.step.new.self ≡ c.args.net.now)) c.in-Err.is c.step.ensures.err,
    )
