use Rattle.std.proofs.Common.{refl}
use Rattle.script.proofs.Exits.{at_err}
use Rattle.plans.specs.{Scenarios.StopsReading, Faults.OfBytes}
use Rattle.play.proofs.Working.{checked}
use Rattle.play.proofs.checking.check.Goals as goal

pub returns-in_err-plan-clause-fault : goal.returns-in_err-plan-clause-fault
returns-in_err-plan-clause-fault g c =
    at_err c.from_residual.result (λ e. OfBytes (g.R.Read.remaining c.args.scenario) (λ bytes. StopsReading bytes e)) c.in_err-plan.field-0.0 c.from_residual.ensures.1 c.in_err-plan.ensures.fault

pub returns-clause-ok : goal.returns-clause-ok
returns-clause-ok g c = (refl, checked (g.R.Read.remaining c.args.scenario) c.in_ok-plan.plan c.in_ok-plan.ensures.ok)
