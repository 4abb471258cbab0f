use Rattle.std.proofs.Common.{refl, is_some, Some, inl}
use Rattle.faults.specs.declared.kind.FaultKind.{FaultKind}
use Rattle.fabric.specs.Fabric.{opening_fabric}
use Rattle.script.proofs.Exits.{at_err}
use Rattle.plans.specs.{Faults.OfBytes, Faults.unplaced, Scenarios.StopsReading}
use Rattle.interpreter.specs.Nets.{kept_meaning}
use Rattle.play.specs.Ends.{KeepsJournal}
use Rattle.play.specs.Works.{Comes, IsOfWorkers, Stops, StopsOn}
use Rattle.play.proofs.Working.{of_bytes, stopped_from, worked_from, works_added}
use Rattle.play.proofs.program.keep.Goals as goal

pub returns-in_err-plan-clause-fault : goal.returns-in_err-plan-clause-fault
returns-in_err-plan-clause-fault g c =
    let known = g.R.Read.remaining c.args.scenario in
    let e = c.in_err-plan.field-0.0 in
    let Stops_on = StopsOn opening_fabric IsOfWorkers (Stops kept_meaning (is_some c.args.typed)) in
    at_err c.from_residual.result (λ f. OfBytes known (λ bytes. Stops_on bytes f)) e c.from_residual.ensures.1
    (of_bytes known (λ bytes. StopsReading bytes e) (λ bytes. Stops_on bytes e) (λ bytes why. inl why) c.in_err-plan.ensures.fault)

pub returns-clause-ok : goal.returns-clause-ok
returns-clause-ok g c =
    let plan = c.in_ok-plan.plan in
    let comes = Comes kept_meaning (is_some c.args.typed) in (
      refl,
      worked_from opening_fabric (g.R.Read.remaining c.args.scenario) plan comes (λ d f. KeepsJournal c.args.wanted d f (Some c.args.kept.now.items) (Some c.add.new.kept.items)) c.in_ok-plan.ensures.ok
          (works_added c.args.wanted comes plan c.args.kept.now.items c.new-made.result.items c.with_fabric.new.kept.items c.add.new.kept.items c.new-made.ensures.items c.in_ok-add.ensures.ok c.in_ok-with_fabric.ensures.ok),
    )

pub returns-in_err-with_fabric-clause-fault : goal.returns-in_err-with_fabric-clause-fault
returns-in_err-with_fabric-clause-fault g c =
    let known = g.R.Read.remaining c.args.scenario in
    let e = c.in_err-with_fabric.field-0.0 in
    let Stops_there = Stops kept_meaning (is_some c.args.typed) in
    at_err c.from_residual-in_err-with_fabric.result (λ f. OfBytes known (λ bytes. StopsOn opening_fabric IsOfWorkers Stops_there bytes f)) e
    c.from_residual-in_err-with_fabric.ensures.1
    (stopped_from opening_fabric known c.in_ok-plan.plan IsOfWorkers Stops_there e c.in_ok-plan.ensures.ok c.in_err-with_fabric.ensures.fault)

pub returns-in_err-add-clause-fault : goal.returns-in_err-add-clause-fault
returns-in_err-add-clause-fault g c =
    let known = g.R.Read.remaining c.args.scenario in
    let e = unplaced FaultKind.NoMemory in
    let Stops_there = Stops kept_meaning (is_some c.args.typed) in
    at_err c.from_residual-in_err-add.result (λ f. OfBytes known (λ bytes. StopsOn opening_fabric IsOfWorkers Stops_there bytes f)) e c.from_residual-in_err-add.ensures.1
    (stopped_from opening_fabric known c.in_ok-plan.plan IsOfWorkers Stops_there e c.in_ok-plan.ensures.ok (inl (record { memory = refl; unplaced = refl })))
