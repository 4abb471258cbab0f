use Rattle.std.proofs.Common.{refl, sym, ap, subst, ◌∙◌, Some, IsSome}
use Rattle.router_core.proofs.Refused.{gave_up}
use Rattle.course.proofs.Images.{due_read}
use Rattle.fabric.proofs.images.patch_due.Goals as goal

pub returns-in_err-next_patch-clause-err : goal.returns-in_err-next_patch-clause-err
returns-in_err-next_patch-clause-err g c =
    let read = c.in-Some.ensures.lookup in
    let due = due_read c.args.world.now c.routers.ensures.routers c.from.ensures read.3.0 read.1 c.due.ensures c.if-not-due.false in
    gave_up c.from_residual.result (subst IsSome (sym due.1) refl)

pub returns-clause-due : goal.returns-clause-due
returns-clause-due g c =
    let read = c.in-Some.ensures.lookup in
    let due = due_read c.args.world.now c.routers.ensures.routers c.from.ensures read.3.0 read.1 c.due.ensures c.if-not-due.false in
    let made = c.in_ok-next_patch.ensures in
    (c.in-Some.publisher.now, due.0, due.1 ∙ ap Some (sym made.image), made.rows)
