use Rattle.std.proofs.Common.{rules, ◌≡◌, ◌∙◌, ◌<◌, Some, Err, IsOk, IsSome, MatchOption, length, vec_len, slice_get, refl, sym, ap, subst, arith}
use Rattle.no_packet_loops.proofs.Common.{Lawful, Lawful_to_refusal, World, Refusal, Publish}
use Rattle.world.specs.Steps.{IsDoneOr}
use Rattle.world.proofs.Done.{memory_lacked}
use Rattle.course.specs.{Course.Course, Course.course_after, Course.course_refusal, Images.due_at}
use Rattle.course.proofs.{Elements.read_at, Images.due_lawful, Images.has_image}
use Rattle.simulation.specs.Patches.{IsImagePatchDue}
use Rattle.simulation.proofs.InForce.{due_there, patch_lawful, published_shown}
use Rattle.simulation.proofs.images.publish.Given as given
use Rattle.simulation.proofs.images.publish.Goals as goal

due : (g : given.Over) (c : goal.After-from g) → IsImagePatchDue c.args.course.now.world c.args.router (Some c.in-Some.patch)
due g c = due_there c.args.course.now.world c.world.result.now c.args.router c.in_ok-patch.field-0 c.in-Some.patch c.world.ensures c.in-Some.is c.in_ok-patch.ensures.due

within : (g : given.Over) (c : goal.After-from g) → c.from.result < length c.args.images.now.items
within g c =
    let there = has_image c.args.course.now.world c.args.router (due g c).0 c.args.images.now.items (due g c).1 c.requires.in_force in
    omega (arith, there, c.from.ensures)

pub index_mut-requires : goal.index_mut-requires
index_mut-requires g c =
    let less = within g c in
    let count : length c.args.images.now.items ≡ vec_len c.args.images.now = search rules in
    omega (arith, less, count)

-- no further step can be counted
pub returns-then-is_full-clause-cause : goal.returns-then-is_full-clause-cause
returns-then-is_full-clause-cause g c = subst (λ o. IsDoneOr {X = Unit {0}} o (Err Refusal.JournalFull)) (sym (c.is_full.ensures.full c.if-is_full.true (Publish c.args.router))) refl

-- else nothing but memory stops a publication that is due
pub returns-in_err-apply-clause-cause : goal.returns-in_err-apply-clause-cause
returns-in_err-apply-clause-cause g c =
    memory_lacked (course_refusal c.args.course.now (Publish c.args.router)) c.from_residual-in_err-apply.result
    (c.is_full.ensures.counted c.if-is_full.false (Publish c.args.router)
    ∙ Lawful_to_refusal c.args.course.now.world (Publish c.args.router)
    (patch_lawful c.args.course.now.world c.args.router c.in-Some.patch (due_there c.args.course.now.world c.world.result.now c.args.router c.in_ok-patch.field-0 c.in-Some.patch c.world.ensures c.in-Some.is c.in_ok-patch.ensures.due)))
    c.from_residual-in_err-apply.ensures.1

pub unwrap-requires : goal.unwrap-requires
unwrap-requires g c =
    subst (λ o. MatchOption o (IsOk c.step-2.result) (λ e. c.step-2.result ≡ Err e))
    (c.is_full.ensures.counted c.if-is_full.false (Publish c.args.router)
    ∙ Lawful_to_refusal c.args.course.now.world (Publish c.args.router)
    (patch_lawful c.args.course.now.world c.args.router c.in-Some.patch (due_there c.args.course.now.world c.world.result.now c.args.router c.in_ok-patch.field-0 c.in-Some.patch c.world.ensures c.in-Some.is c.in_ok-patch.ensures.due)))
    (c.step-2.ensures.publication c.args.router refl)

pub returns-clause-in_force : goal.returns-clause-in_force
returns-clause-in_force g c =
    let w : World = c.args.course.now.world in
    let patch : IsImagePatchDue w c.args.router (Some c.in-Some.patch) =
    due_there w c.world.result.now c.args.router c.in_ok-patch.field-0 c.in-Some.patch c.world.ensures c.in-Some.is c.in_ok-patch.ensures.due in
    let there = has_image w c.args.router patch.0 c.args.images.now.items patch.1 c.requires.in_force in
    let at : slice_get c.args.images.now.items c.args.router ≡ Some c.index_mut.result.now =
    read_at c.args.images.now.items c.args.router c.from.result c.index_mut.result.now (omega (arith, there, c.from.ensures)) c.index_mut.ensures.value c.from.ensures in
    let done : Lawful w (Publish c.args.router) × (c.step-2.new.self ≡ course_after c.args.course.now (Publish c.args.router)) = rw c.unwrap.ensures at c.step-2.ensures.ok in
    published_shown w c.step-2.new.self.world c.args.router c.from.result c.args.images.now.items c.index_mut.result.now c.apply.new.self c.in-Some.patch patch c.requires.in_force c.from.ensures at c.in_ok-apply.ensures.ok
    (ap (λ (x : Course). x.world) done.1)

-- there is no memory for the patch that is due
pub returns-in_err-patch-clause-cause : goal.returns-in_err-patch-clause-cause
returns-in_err-patch-clause-cause g c =
    memory_lacked (course_refusal c.args.course.now (Publish c.args.router)) c.from_residual.result
    (c.is_full.ensures.counted c.if-is_full.false (Publish c.args.router)
    ∙ Lawful_to_refusal c.args.course.now.world (Publish c.args.router)
    (due_lawful c.args.course.now.world c.args.router (subst (λ w. IsSome (due_at w c.args.router)) c.world.ensures c.in_err-patch.ensures.err)))
    c.from_residual.ensures.1
