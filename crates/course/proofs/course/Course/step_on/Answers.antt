use Rattle.std.proofs.Common.{◌≡◌, IsOk, Err, MatchOption, subst}
use Rattle.world.specs.Steps.{IsDoneOr}
use Rattle.course.proofs.Courses.{counted}
use Rattle.course.proofs.course.Course.step_on.Goals as goal

pub returns-clause-cause : goal.returns-clause-cause
returns-clause-cause g c = subst (λ o. IsDoneOr o c.step.result) (counted c.args.self.now c.args.step c.requires) c.step.ensures.cause

pub returns-clause-publication : goal.returns-clause-publication
returns-clause-publication g c i is = subst (λ o. MatchOption o (IsOk c.step.result) (λ e. c.step.result ≡ Err e)) (counted c.args.self.now c.args.step c.requires) (c.step.ensures.publication i is)

pub returns-clause-down : goal.returns-clause-down
returns-clause-down g c l is = subst (λ o. MatchOption o (IsOk c.step.result) (λ e. c.step.result ≡ Err e)) (counted c.args.self.now c.args.step c.requires) (c.step.ensures.down l is)
