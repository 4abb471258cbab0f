use Rattle.std.proofs.Common.{refl, is_some, inl}
use Rattle.script.proofs.Exits.{at_err}
use Rattle.plans.specs.{Faults.OfBytes, Scenarios.StopsReading}
use Rattle.interpreter.specs.Nets.{counted_meaning, opening_counted}
use Rattle.play.specs.Works.{Comes, IsOfNothing, Stops, StopsOn, none_kept}
use Rattle.play.proofs.Working.{of_bytes, stopped_from, worked_from}
use Rattle.play.proofs.program.count.Goals as goal

pub returns-in_err-plan-clause-fault : goal.returns-in_err-plan-clause-fault
returns-in_err-plan-clause-fault g c =
    let known = g.R.Read.remaining c.args.scenario in
    let e = c.in_err-plan.field-0.0 in
    let Stops_on = StopsOn opening_counted IsOfNothing (Stops counted_meaning (is_some c.args.typed)) in
    at_err c.from_residual.result (λ f. OfBytes known (λ bytes. Stops_on bytes f)) e c.from_residual.ensures.1
    (of_bytes known (λ bytes. StopsReading bytes e) (λ bytes. Stops_on bytes e) (λ bytes why. inl why) c.in_err-plan.ensures.fault)

pub returns-clause-ok : goal.returns-clause-ok
returns-clause-ok g c =
    (refl, worked_from opening_counted (g.R.Read.remaining c.args.scenario) c.in_ok-plan.plan (Comes counted_meaning (is_some c.args.typed)) none_kept c.in_ok-plan.ensures.ok c.in_ok-with_simulation.ensures.ok)

pub returns-in_err-with_simulation-clause-fault : goal.returns-in_err-with_simulation-clause-fault
returns-in_err-with_simulation-clause-fault g c =
    let known = g.R.Read.remaining c.args.scenario in
    let e = c.in_err-with_simulation.field-0.0 in
    let Stops_there = Stops counted_meaning (is_some c.args.typed) in
    at_err c.from_residual-in_err-with_simulation.result (λ f. OfBytes known (λ bytes. StopsOn opening_counted IsOfNothing Stops_there bytes f)) e
    c.from_residual-in_err-with_simulation.ensures.1
    (stopped_from opening_counted known c.in_ok-plan.plan IsOfNothing Stops_there e c.in_ok-plan.ensures.ok c.in_err-with_simulation.ensures.fault)
