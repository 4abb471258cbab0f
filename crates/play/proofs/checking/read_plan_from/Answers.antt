use Rattle.std.proofs.Common.{◌⊎◌, string_bytes, refl, subst, inl}
use Rattle.std.proofs.lemmas.Result.{IfOk-weaker, IfErr-weaker}
use Rattle.script.proofs.Exits.{at_err}
use Rattle.plans.specs.{Faults.IsWantOfMemory, Faults.OfBytes, Faults.unplaced, Scenarios.IsScenarioFault, Scenarios.StopsReading}
use Rattle.plans.proofs.{Planned.IsPlanned, Stops.stops_short}
use Rattle.play.specs.Ends.{IsPlannedFrom}
use Rattle.play.proofs.checking.read_plan_from.Goals as goal

pub returns-in_err-text-clause-fault : goal.returns-in_err-text-clause-fault
returns-in_err-text-clause-fault g c =
    let unread = c.in_err-text.ensures.fault in
    at_err c.from_residual.result (λ e. OfBytes (g.R.Read.remaining c.args.scenario) (λ bytes. StopsReading bytes e)) (unplaced c.in_err-text.field-0.0)
    c.from_residual.ensures.1 (unread.0, unread.1, inl (refl, unread.2))

pub returns-clause-ok : goal.returns-clause-ok
returns-clause-ok g c =
    let text = string_bytes c.in_ok-text.text in
    IfOk-weaker c.read_plan.result (IsPlanned c.as_str.result.now) (IsPlannedFrom (g.R.Read.remaining c.args.scenario))
    (λ o is. (text, c.in_ok-text.ensures.whole, (c.in_ok-text.ensures.short, subst (λ bytes. IsPlanned bytes o) c.as_str.ensures.value is))) c.read_plan.ensures.ok

pub returns-clause-fault : goal.returns-clause-fault
returns-clause-fault g c =
    let text = string_bytes c.in_ok-text.text in
    IfErr-weaker c.read_plan.result (λ e. IsWantOfMemory e ⊎ IsScenarioFault c.as_str.result.now e) (λ e. OfBytes (g.R.Read.remaining c.args.scenario) (λ bytes. StopsReading bytes e))
    (λ e why. (text, c.in_ok-text.ensures.whole, stops_short text e c.in_ok-text.ensures.short (subst (λ bytes. IsWantOfMemory e ⊎ IsScenarioFault bytes e) c.as_str.ensures.value why))) c.read_plan.ensures.fault
