use Rattle.std.proofs.Common.{refl, ap, inl}
use Rattle.std.proofs.lemmas.Result.{IfOk-weaker, IfErr-weaker}
use Rattle.faults.specs.declared.kind.FaultKind.{FaultKind}
use Rattle.script.proofs.Exits.{at_err}
use Rattle.plans.specs.{Faults.IsWantOfMemory, Faults.OfBytes, Faults.journal_fault, Faults.unplaced, Scenarios.StopsReading}
use Rattle.interpreter.specs.Nets.{Counted}
use Rattle.play.specs.Replays.{Replays, StepsReplay, StopsReplay}
use Rattle.play.proofs.Replays.{replay_from, stops_journal, stops_memory, stops_unread}
use Rattle.play.proofs.Working.{of_bytes}
use Rattle.play.proofs.replay.replay.Goals as goal

pub returns-in_err-plan-clause-fault : goal.returns-in_err-plan-clause-fault
returns-in_err-plan-clause-fault g c =
    let scenario = g.R.Read.remaining c.args.scenario in
    let known = g.J.Read.remaining c.args.journal in
    let e = c.in_err-plan.field-0.0 in
    at_err c.from_residual.result (λ f. OfBytes scenario (λ bytes. StopsReplay bytes known f)) e c.from_residual.ensures.1
    (of_bytes scenario (λ bytes. StopsReading bytes e) (λ bytes. StopsReplay bytes known e) (λ bytes why. inl why) c.in_err-plan.ensures.fault)

pub returns-in_err-lines-clause-fault : goal.returns-in_err-lines-clause-fault
returns-in_err-lines-clause-fault g c =
    let scenario = g.R.Read.remaining c.args.scenario in
    let known = g.J.Read.remaining c.args.journal in
    let kind = c.in_err-lines.field-0.0 in
    let unread = c.in_err-lines.ensures.fault in
    at_err c.from_residual-in_err-lines.result (λ f. OfBytes scenario (λ bytes. StopsReplay bytes known f)) (unplaced kind) c.from_residual-in_err-lines.ensures.1
    (stops_unread scenario known c.in_ok-plan.plan unread.0 kind c.in_ok-plan.ensures.ok unread.1 unread.2)

pub returns-in_err-journal-clause-fault : goal.returns-in_err-journal-clause-fault
returns-in_err-journal-clause-fault g c =
    let scenario = g.R.Read.remaining c.args.scenario in
    let known = g.J.Read.remaining c.args.journal in
    let e = c.in_err-journal.field-0.0 in
    at_err c.from_residual-in_err-journal.result (λ f. OfBytes scenario (λ bytes. StopsReplay bytes known f)) (journal_fault e) c.from_residual-in_err-journal.ensures.1
    (stops_journal scenario known c.in_ok-plan.plan c.in_ok-lines.lines.items c.deref.result.now c.names.result.now c.links.result.now c.attachments.result.now e
    c.in_ok-plan.ensures.ok c.in_ok-lines.ensures.whole c.names.ensures c.links.ensures.links c.attachments.ensures.attachments c.deref.ensures.value c.in_err-journal.ensures.err)

pub returns-in_err-live-clause-fault : goal.returns-in_err-live-clause-fault
returns-in_err-live-clause-fault g c =
    let scenario = g.R.Read.remaining c.args.scenario in
    let known = g.J.Read.remaining c.args.journal in
    let e = unplaced FaultKind.NoMemory in
    at_err c.from_residual-in_err-live.result (λ f. OfBytes scenario (λ bytes. StopsReplay bytes known f)) e c.from_residual-in_err-live.ensures.1
    (stops_memory scenario known c.in_ok-plan.plan e c.in_ok-plan.ensures.ok (record { memory = refl; unplaced = refl }))

pub returns-clause-fault : goal.returns-clause-fault
returns-clause-fault g c =
    let scenario = g.R.Read.remaining c.args.scenario in
    let known = g.J.Read.remaining c.args.journal in
    IfErr-weaker c.do_journal.result IsWantOfMemory (λ f. OfBytes scenario (λ bytes. StopsReplay bytes known f))
    (λ f memory. stops_memory scenario known c.in_ok-plan.plan f c.in_ok-plan.ensures.ok memory) c.do_journal.ensures.fault

pub returns-clause-ok : goal.returns-clause-ok
returns-clause-ok g c =
    let scenario = g.R.Read.remaining c.args.scenario in
    let known = g.J.Read.remaining c.args.journal in
    let read = c.in_ok-journal.journal in
    let before = c.in_ok-live.live.simulation.world in
    let after = c.do_journal.new.live.simulation.world in
    IfOk-weaker c.do_journal.result (StepsReplay read.version read.steps.items before after) (λ end. OfBytes scenario (λ bytes. OfBytes known (λ lines. Replays bytes lines end)))
    (λ end replays. replay_from scenario known c.in_ok-plan.plan c.in_ok-lines.lines.items c.deref.result.now c.names.result.now c.links.result.now c.attachments.result.now read.version read.steps.items read.report.now before after end
    c.in_ok-plan.ensures.ok c.in_ok-lines.ensures.whole c.names.ensures c.links.ensures.links c.attachments.ensures.attachments c.deref.ensures.value c.in_ok-journal.ensures.ok
    (ap (λ (x : Counted). x.simulation.world) c.in_ok-live.ensures) replays) c.do_journal.ensures.ok
