use Rattle.std.proofs.Common.{◌∷◌, codes, refl, sym}
use Rattle.script.proofs.Common.{words_of, Asks, AsksNoStep, AsksNoTrace, AsksNothing, AsksTrace, words-some, IfErr-weaker, IfOk-weaker}
use Rattle.script.proofs.{Exits.at_err, StepTexts.names_router, StepTexts.names_no_router}
use Rattle.script.proofs.CommandTexts.{state_fault, no_table, no_next, no_queued, no_held, lookup_fault, inject_fault, trace_asks, trace_fault, step_fault, no_drawn, up_fault, down_fault}
use Rattle.script.proofs.command.read_words.Goals as goal

pub returns-in_err-router-in-state-clause-err : goal.returns-in_err-router-in-state-clause-err
returns-in_err-router-in-state-clause-err c =
    at_err c.from_residual-in_err-router-in-state.result (AsksNothing c.args.names.now c.args.links.now c.args.attachments.now (c.args.verb.now ∷ words_of c.args.operands.now)) c.in_err-router-in-state.field-0.0 c.from_residual-in_err-router-in-state.ensures.1
    (rw c.in-state.is (state_fault c.args.names.now c.args.links.now c.args.attachments.now (words_of c.args.operands.now) (words-some c.args.operands.now)
    c.in_err-router-in-state.field-0.0 (c.in_err-router-in-state.ensures.err (codes "state"))))

pub returns-in_err-router-in-lookup-clause-err : goal.returns-in_err-router-in-lookup-clause-err
returns-in_err-router-in-lookup-clause-err c =
    at_err c.from_residual-in_err-router-in-lookup.result (AsksNothing c.args.names.now c.args.links.now c.args.attachments.now (c.args.verb.now ∷ words_of c.args.operands.now)) c.in_err-router-in-lookup.field-0.0 c.from_residual-in_err-router-in-lookup.ensures.1
    (rw c.in-lookup.is (lookup_fault c.args.names.now c.args.links.now c.args.attachments.now (words_of c.args.operands.now) (words-some c.args.operands.now)
    c.in_err-router-in-lookup.field-0.0 (c.in_err-router-in-lookup.ensures.err (codes "lookup"))))

pub returns-in_err-router-in-inject-clause-err : goal.returns-in_err-router-in-inject-clause-err
returns-in_err-router-in-inject-clause-err c =
    at_err c.from_residual-in_err-router-in-inject.result (AsksNothing c.args.names.now c.args.links.now c.args.attachments.now (c.args.verb.now ∷ words_of c.args.operands.now)) c.in_err-router-in-inject.field-0.0 c.from_residual-in_err-router-in-inject.ensures.1
    (rw c.in-inject.is (inject_fault c.args.names.now c.args.links.now c.args.attachments.now (words_of c.args.operands.now) (words-some c.args.operands.now)
    c.in_err-router-in-inject.field-0.0 (c.in_err-router-in-inject.ensures.err (codes "inject"))))

pub returns-in-trace-clause-err : goal.returns-in-trace-clause-err
returns-in-trace-clause-err c =
    let rest = words_of c.args.operands.now in
    rw c.in-trace.is (IfErr-weaker c.read_trace.result (AsksNoTrace c.args.names.now (codes "trace" ∷ rest)) (AsksNothing c.args.names.now c.args.links.now c.args.attachments.now (codes "trace" ∷ rest))
    (trace_fault c.args.names.now c.args.links.now c.args.attachments.now rest (words-some c.args.operands.now)) c.read_trace.ensures.err)

pub returns-in-trace-clause-ok : goal.returns-in-trace-clause-ok
returns-in-trace-clause-ok c =
    let rest = words_of c.args.operands.now in
    rw c.in-trace.is (IfOk-weaker c.read_trace.result (AsksTrace c.args.names.now (codes "trace" ∷ rest)) (Asks c.args.names.now c.args.links.now c.args.attachments.now (codes "trace" ∷ rest))
    (trace_asks c.args.names.now c.args.links.now c.args.attachments.now rest (words-some c.args.operands.now)) c.read_trace.ensures.ok)

pub returns-in_err-router-in-table-clause-err : goal.returns-in_err-router-in-table-clause-err
returns-in_err-router-in-table-clause-err c =
    let none = c.in_err-router-in-table.ensures.err in
    at_err c.from_residual-in_err-router-in-table.result (AsksNothing c.args.names.now c.args.links.now c.args.attachments.now (c.args.verb.now ∷ words_of c.args.operands.now)) c.in_err-router-in-table.field-0.0 c.from_residual-in_err-router-in-table.ensures.1
    (rw (none.0, c.in-table.is) (no_table c.args.names.now c.args.links.now c.args.attachments.now (words_of c.args.operands.now) (words-some c.args.operands.now) (λ router h. names_no_router c.args.names.now (codes "table") c.args.operands.now router none.1 h)))

pub returns-in_err-router-in-next-clause-err : goal.returns-in_err-router-in-next-clause-err
returns-in_err-router-in-next-clause-err c =
    let none = c.in_err-router-in-next.ensures.err in
    at_err c.from_residual-in_err-router-in-next.result (AsksNothing c.args.names.now c.args.links.now c.args.attachments.now (c.args.verb.now ∷ words_of c.args.operands.now)) c.in_err-router-in-next.field-0.0 c.from_residual-in_err-router-in-next.ensures.1
    (rw (none.0, c.in-next.is) (no_next c.args.names.now c.args.links.now c.args.attachments.now (words_of c.args.operands.now) (words-some c.args.operands.now) (λ router h. names_no_router c.args.names.now (codes "next") c.args.operands.now router none.1 h)))

pub returns-in_err-router-in-held-clause-err : goal.returns-in_err-router-in-held-clause-err
returns-in_err-router-in-held-clause-err c =
    let none = c.in_err-router-in-held.ensures.err in
    at_err c.from_residual-in_err-router-in-held.result (AsksNothing c.args.names.now c.args.links.now c.args.attachments.now (c.args.verb.now ∷ words_of c.args.operands.now)) c.in_err-router-in-held.field-0.0 c.from_residual-in_err-router-in-held.ensures.1
    (rw (none.0, c.in-held.is) (no_held c.args.names.now c.args.links.now c.args.attachments.now (words_of c.args.operands.now) (words-some c.args.operands.now) (λ router h. names_no_router c.args.names.now (codes "held") c.args.operands.now router none.1 h)))

pub returns-in_err-router-in-queue-clause-err : goal.returns-in_err-router-in-queue-clause-err
returns-in_err-router-in-queue-clause-err c =
    let none = c.in_err-router-in-queue.ensures.err in
    at_err c.from_residual-in_err-router-in-queue.result (AsksNothing c.args.names.now c.args.links.now c.args.attachments.now (c.args.verb.now ∷ words_of c.args.operands.now)) c.in_err-router-in-queue.field-0.0 c.from_residual-in_err-router-in-queue.ensures.1
    (rw (none.0, c.in-queue.is) (no_queued c.args.names.now c.args.links.now c.args.attachments.now (words_of c.args.operands.now) (words-some c.args.operands.now) none.1))

pub returns-in-Some-clause-ok : goal.returns-in-Some-clause-ok
returns-in-Some-clause-ok c =
    rw c.in-up.is (names_router c.args.names.now (codes "up") c.args.operands.now c.in-Some.router (sym c.in-Some.ensures.value) c.in-Some.ensures.name)

pub returns-in-Some-number-clause-ok : goal.returns-in-Some-number-clause-ok
returns-in-Some-number-clause-ok c =
    rw c.in-down.is (names_router c.args.names.now (codes "down") c.args.operands.now c.in-Some-number.router (sym c.in-Some-number.ensures.value) c.in-Some-number.ensures.name)

pub returns-in-None-clause-err : goal.returns-in-None-clause-err
returns-in-None-clause-err c =
    let rest = words_of c.args.operands.now in
    rw c.in-up.is (IfErr-weaker c.read_step_command.result (AsksNoStep c.args.names.now c.args.links.now c.args.attachments.now (codes "up" ∷ rest)) (AsksNothing c.args.names.now c.args.links.now c.args.attachments.now (codes "up" ∷ rest))
    (up_fault c.args.names.now c.args.links.now c.args.attachments.now rest (words-some c.args.operands.now) (λ router h. names_no_router c.args.names.now (codes "up") c.args.operands.now router (sym c.in-None.ensures.value) h))
    (rw c.in-up.is at c.read_step_command.ensures.err))

pub returns-in-None-number-clause-err : goal.returns-in-None-number-clause-err
returns-in-None-number-clause-err c =
    let rest = words_of c.args.operands.now in
    rw c.in-down.is (IfErr-weaker c.read_step_command-in-None-number.result (AsksNoStep c.args.names.now c.args.links.now c.args.attachments.now (codes "down" ∷ rest)) (AsksNothing c.args.names.now c.args.links.now c.args.attachments.now (codes "down" ∷ rest))
    (down_fault c.args.names.now c.args.links.now c.args.attachments.now rest (words-some c.args.operands.now) (λ router h. names_no_router c.args.names.now (codes "down") c.args.operands.now router (sym c.in-None-number.ensures.value) h))
    (rw c.in-down.is at c.read_step_command-in-None-number.ensures.err))

pub returns-in_err-seed-in-settle-clause-err : goal.returns-in_err-seed-in-settle-clause-err
returns-in_err-seed-in-settle-clause-err c =
    let none = c.in_err-seed-in-settle.ensures.err in
    at_err c.from_residual-in_err-seed-in-settle.result (AsksNothing c.args.names.now c.args.links.now c.args.attachments.now (c.args.verb.now ∷ words_of c.args.operands.now)) c.in_err-seed-in-settle.field-0.0 c.from_residual-in_err-seed-in-settle.ensures.1
    (rw (none.0, c.in-settle.is) (no_drawn c.args.names.now c.args.links.now c.args.attachments.now (words_of c.args.operands.now) (words-some c.args.operands.now) none.1))

pub returns-in_default-clause-err : goal.returns-in_default-clause-err
returns-in_default-clause-err c =
    let rest = words_of c.args.operands.now in
    IfErr-weaker c.read_step_command-in_default.result (AsksNoStep c.args.names.now c.args.links.now c.args.attachments.now (c.args.verb.now ∷ rest)) (AsksNothing c.args.names.now c.args.links.now c.args.attachments.now (c.args.verb.now ∷ rest))
    (step_fault c.args.names.now c.args.links.now c.args.attachments.now c.args.verb.now rest (words-some c.args.operands.now)
    c.in_default.not-try c.in_default.not-up c.in_default.not-down c.in_default.not-settle c.in_default.not-state c.in_default.not-table c.in_default.not-next c.in_default.not-queue c.in_default.not-held c.in_default.not-lookup c.in_default.not-inject c.in_default.not-trace) c.read_step_command-in_default.ensures.err

pub returns-in_ok-router-in-state-clause-ok : goal.returns-in_ok-router-in-state-clause-ok
returns-in_ok-router-in-state-clause-ok c = rw c.in-state.is (c.in_ok-router-in-state.ensures.ok (codes "state"))

pub returns-in_ok-router-in-table-clause-ok : goal.returns-in_ok-router-in-table-clause-ok
returns-in_ok-router-in-table-clause-ok c =
    let known = c.in_ok-router-in-table.ensures.ok in
    rw c.in-table.is (names_router c.args.names.now (codes "table") c.args.operands.now c.in_ok-router-in-table.router known.0 known.1)

pub returns-in_ok-router-in-next-clause-ok : goal.returns-in_ok-router-in-next-clause-ok
returns-in_ok-router-in-next-clause-ok c =
    let known = c.in_ok-router-in-next.ensures.ok in
    rw c.in-next.is (names_router c.args.names.now (codes "next") c.args.operands.now c.in_ok-router-in-next.router known.0 known.1)

pub returns-in_ok-router-in-held-clause-ok : goal.returns-in_ok-router-in-held-clause-ok
returns-in_ok-router-in-held-clause-ok c =
    let known = c.in_ok-router-in-held.ensures.ok in
    rw c.in-held.is (names_router c.args.names.now (codes "held") c.args.operands.now c.in_ok-router-in-held.router known.0 known.1)

pub returns-in_ok-router-in-queue-clause-ok : goal.returns-in_ok-router-in-queue-clause-ok
returns-in_ok-router-in-queue-clause-ok c = (words_of c.args.operands.now, rw c.in-queue.is refl, c.in_ok-router-in-queue.ensures.ok)

pub returns-in_ok-router-in-lookup-clause-ok : goal.returns-in_ok-router-in-lookup-clause-ok
returns-in_ok-router-in-lookup-clause-ok c = rw c.in-lookup.is (c.in_ok-router-in-lookup.ensures.ok (codes "lookup"))

pub returns-in_ok-router-in-inject-clause-ok : goal.returns-in_ok-router-in-inject-clause-ok
returns-in_ok-router-in-inject-clause-ok c = rw c.in-inject.is (c.in_ok-router-in-inject.ensures.ok (codes "inject"))
