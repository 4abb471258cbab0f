use Rattle.std.proofs.Common.{IfErr, OnOk, is_some, subst}
use Rattle.interpreter.specs.Nets.{counted_meaning, opening_counted}
use Rattle.play.specs.Works.{Comes, IsOfNothing, Stops, StopsWorkOn, WorksOn, none_kept}
use Rattle.play.proofs.opening.with_simulation.Goals as goal

pub returns-clause-ok : goal.returns-clause-ok
returns-clause-ok g c =
    subst (λ cs. OnOk c.with_counted.result (WorksOn opening_counted (Comes counted_meaning (is_some c.args.typed)) none_kept c.args.plan.network c.args.plan.directory cs)) c.deref.ensures.value c.with_counted.ensures.ok

pub returns-clause-fault : goal.returns-clause-fault
returns-clause-fault g c =
    subst (λ cs. IfErr c.with_counted.result (StopsWorkOn opening_counted IsOfNothing (Stops counted_meaning (is_some c.args.typed)) c.args.plan.network cs)) c.deref.ensures.value c.with_counted.ensures.fault
