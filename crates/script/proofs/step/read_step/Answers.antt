use Rattle.std.proofs.Common.{◌∷◌, codes}
use Rattle.script.proofs.{Common.words_of, Common.AsksNoStep, Exits.at_err}
use Rattle.script.proofs.StepTexts.{no_up, no_down, no_deliver, no_publish, no_release, cost_fault, attach_fault, detach_fault, names_router, names_no_router}
use Rattle.script.proofs.step.read_step.Goals as goal

pub returns-in_err-way-in-up-clause-err : goal.returns-in_err-way-in-up-clause-err
returns-in_err-way-in-up-clause-err c =
    let none = c.in_err-way-in-up.ensures.err in
    at_err c.from_residual.result (AsksNoStep c.args.names.now c.args.links.now c.args.attachments.now (c.args.verb.now ∷ words_of c.args.operands.now)) c.in_err-way-in-up.field-0.0 c.from_residual.ensures.1
    (rw (none.0, c.in-up.is) (no_up c.args.names.now c.args.links.now c.args.attachments.now (words_of c.args.operands.now) (none.1 (codes "up"))))

pub returns-in_err-way-in-down-clause-err : goal.returns-in_err-way-in-down-clause-err
returns-in_err-way-in-down-clause-err c =
    let none = c.in_err-way-in-down.ensures.err in
    at_err c.from_residual-in_err-way-in-down.result (AsksNoStep c.args.names.now c.args.links.now c.args.attachments.now (c.args.verb.now ∷ words_of c.args.operands.now)) c.in_err-way-in-down.field-0.0 c.from_residual-in_err-way-in-down.ensures.1
    (rw (none.0, c.in-down.is) (no_down c.args.names.now c.args.links.now c.args.attachments.now (words_of c.args.operands.now) (none.1 (codes "down"))))

pub returns-in_err-router-in-cost-clause-err : goal.returns-in_err-router-in-cost-clause-err
returns-in_err-router-in-cost-clause-err c =
    at_err c.from_residual-in_err-router-in-cost.result (AsksNoStep c.args.names.now c.args.links.now c.args.attachments.now (c.args.verb.now ∷ words_of c.args.operands.now)) c.in_err-router-in-cost.field-0.0 c.from_residual-in_err-router-in-cost.ensures.1
    (rw c.in-cost.is (cost_fault c.args.names.now c.args.links.now c.args.attachments.now (words_of c.args.operands.now) c.in_err-router-in-cost.field-0.0 c.in_err-router-in-cost.ensures.err))

pub returns-in_err-router-in-deliver-clause-err : goal.returns-in_err-router-in-deliver-clause-err
returns-in_err-router-in-deliver-clause-err c =
    let none = c.in_err-router-in-deliver.ensures.err in
    at_err c.from_residual-in_err-router-in-deliver.result (AsksNoStep c.args.names.now c.args.links.now c.args.attachments.now (c.args.verb.now ∷ words_of c.args.operands.now)) c.in_err-router-in-deliver.field-0.0 c.from_residual-in_err-router-in-deliver.ensures.1
    (rw (none.0, c.in-deliver.is) (no_deliver c.args.names.now c.args.links.now c.args.attachments.now (words_of c.args.operands.now) none.1))

pub returns-in_err-router-in-attach-clause-err : goal.returns-in_err-router-in-attach-clause-err
returns-in_err-router-in-attach-clause-err c =
    at_err c.from_residual-in_err-router-in-attach.result (AsksNoStep c.args.names.now c.args.links.now c.args.attachments.now (c.args.verb.now ∷ words_of c.args.operands.now)) c.in_err-router-in-attach.field-0.0 c.from_residual-in_err-router-in-attach.ensures.1
    (rw c.in-attach.is (attach_fault c.args.names.now c.args.links.now c.args.attachments.now (words_of c.args.operands.now) c.in_err-router-in-attach.field-0.0 c.in_err-router-in-attach.ensures.err))

pub returns-in_err-router-in-detach-clause-err : goal.returns-in_err-router-in-detach-clause-err
returns-in_err-router-in-detach-clause-err c =
    at_err c.from_residual-in_err-router-in-detach.result (AsksNoStep c.args.names.now c.args.links.now c.args.attachments.now (c.args.verb.now ∷ words_of c.args.operands.now)) c.in_err-router-in-detach.field-0.0 c.from_residual-in_err-router-in-detach.ensures.1
    (rw c.in-detach.is (detach_fault c.args.names.now c.args.links.now c.args.attachments.now (words_of c.args.operands.now) c.in_err-router-in-detach.field-0.0 (c.in_err-router-in-detach.ensures.err (codes "detach"))))

pub returns-in_err-router-in-publish-clause-err : goal.returns-in_err-router-in-publish-clause-err
returns-in_err-router-in-publish-clause-err c =
    let none = c.in_err-router-in-publish.ensures.err in
    at_err c.from_residual-in_err-router-in-publish.result (AsksNoStep c.args.names.now c.args.links.now c.args.attachments.now (c.args.verb.now ∷ words_of c.args.operands.now)) c.in_err-router-in-publish.field-0.0 c.from_residual-in_err-router-in-publish.ensures.1
    (rw (none.0, c.in-publish.is) (no_publish c.args.names.now c.args.links.now c.args.attachments.now (words_of c.args.operands.now) (λ router h. names_no_router c.args.names.now (codes "publish") c.args.operands.now router none.1 h)))

pub returns-in_err-router-in-release-clause-err : goal.returns-in_err-router-in-release-clause-err
returns-in_err-router-in-release-clause-err c =
    let none = c.in_err-router-in-release.ensures.err in
    at_err c.from_residual-in_err-router-in-release.result (AsksNoStep c.args.names.now c.args.links.now c.args.attachments.now (c.args.verb.now ∷ words_of c.args.operands.now)) c.in_err-router-in-release.field-0.0 c.from_residual-in_err-router-in-release.ensures.1
    (rw (none.0, c.in-release.is) (no_release c.args.names.now c.args.links.now c.args.attachments.now (words_of c.args.operands.now) (λ router h. names_no_router c.args.names.now (codes "release") c.args.operands.now router none.1 h)))

pub returns-in_ok-way-in-up-clause-ok : goal.returns-in_ok-way-in-up-clause-ok
returns-in_ok-way-in-up-clause-ok c = (c.in_ok-way-in-up.way.router, rw c.in-up.is (c.in_ok-way-in-up.ensures.ok (codes "up")))

pub returns-in_ok-way-in-down-clause-ok : goal.returns-in_ok-way-in-down-clause-ok
returns-in_ok-way-in-down-clause-ok c = (c.in_ok-way-in-down.way.router, rw c.in-down.is (c.in_ok-way-in-down.ensures.ok (codes "down")))

pub returns-in_ok-router-in-cost-clause-ok : goal.returns-in_ok-router-in-cost-clause-ok
returns-in_ok-router-in-cost-clause-ok c = rw c.in-cost.is c.in_ok-router-in-cost.ensures.ok

pub returns-in_ok-router-in-deliver-clause-ok : goal.returns-in_ok-router-in-deliver-clause-ok
returns-in_ok-router-in-deliver-clause-ok c = rw c.in-deliver.is c.in_ok-router-in-deliver.ensures.ok

pub returns-in_ok-router-in-attach-clause-ok : goal.returns-in_ok-router-in-attach-clause-ok
returns-in_ok-router-in-attach-clause-ok c = rw c.in-attach.is c.in_ok-router-in-attach.ensures.ok

pub returns-in_ok-router-in-detach-clause-ok : goal.returns-in_ok-router-in-detach-clause-ok
returns-in_ok-router-in-detach-clause-ok c = rw c.in-detach.is (c.in_ok-router-in-detach.ensures.ok (codes "detach"))

pub returns-in_ok-router-in-publish-clause-ok : goal.returns-in_ok-router-in-publish-clause-ok
returns-in_ok-router-in-publish-clause-ok c =
    let known = c.in_ok-router-in-publish.ensures.ok in
    rw c.in-publish.is (names_router c.args.names.now (codes "publish") c.args.operands.now c.in_ok-router-in-publish.router known.0 known.1)

pub returns-in_ok-router-in-release-clause-ok : goal.returns-in_ok-router-in-release-clause-ok
returns-in_ok-router-in-release-clause-ok c =
    let known = c.in_ok-router-in-release.ensures.ok in
    rw c.in-release.is (names_router c.args.names.now (codes "release") c.args.operands.now c.in_ok-router-in-release.router known.0 known.1)
