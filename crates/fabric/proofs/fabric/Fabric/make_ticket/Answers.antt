use Rattle.std.proofs.Common.{rules, ◌≡◌, ◌∙◌, ◌+◌, ◌<◌, length, vec_len, None, Some, refl, sym, ap, subst, arith, IsSome, false, is_some, option_map, slice_get, set, vec_capacity}
use Rattle.no_packet_loops.proofs.Common.{IsNetwork, slice_get-map, most_steps, Patch, Publish}
use Rattle.image_patch.specs.Patches.{patched}
use Rattle.world.specs.Steps.{HasRoomForSteps}
use Rattle.world.proofs.Done.{memory_lacked, not_caused}
use Rattle.publication.specs.{Lists.Writing, Lists.image_of, Lists.patch_of, Outings.Outing}
use Rattle.fabric.specs.{Desks.all_lent, Desks.desk_out, Desks.writings, Patches.IsPatchDue}
use Rattle.fabric.specs.Fabric.{Fabric, count_lent, fabric_of, fabric_refusal, lent_at, with_lent, IsFabric}
use Rattle.course.specs.Images.{due_at}
use Rattle.fabric.specs.Writers.{ArePending, AreWriters, shown_images, waiting_at, fabric_seen}
use Rattle.course.proofs.Images.{due_lawful}
use Rattle.fabric.proofs.{Causes.admitted, Causes.due_seen, Fabrics.room_left}
use Rattle.fabric.proofs.Publications.{IsDue, due_there, names_all, next_number, number_is, shows}
use Rattle.fabric.proofs.Seats.{count_away, desk_within, due_desk, is_in, kept_away, lent_away, none_kept, pending_away, seat, shown_away, writers_away, writing_there}
use Rattle.fabric.proofs.fabric.Fabric.make_ticket.Given as given
use Rattle.fabric.proofs.fabric.Fabric.make_ticket.Goals as goal
use Rattle.fabric.proofs.fabric.Fabric.make_ticket.Goals.{After-lend}

pub patch_due-requires : goal.patch_due-requires
patch_due-requires g c = subst (HasRoomForSteps 1) (sym c.world.ensures)
    (room_left (fabric_seen g.B.FabricName.openings c.self.inside.course.network c.self.inside.journal.items c.self.inside.course.world c.self.inside.desks.items) (vec_capacity c.self.inside.journal) c.self.invariant.0.0)

-- no writer of the router is out
free : (g : given.Over) (c : goal.After-from g) → is_some (lent_at (all_lent c.self.inside.desks.items) c.args.router) ≡ false
free g c = ap (λ (f : Fabric). is_some (lent_at f.lent c.args.router)) c.self.view_is ∙ c.in_ok-admits.ensures.free

due : (g : given.Over) (c : goal.After-from g) → IsPatchDue c.self.inside.course.world c.args.router (waiting_at (writings c.self.inside.desks.items) c.args.router) (Some c.in-Some.patch)
due g c =
    due_there c.world.result.now c.self.inside.course.world (writings c.deref.result.now) (writings c.self.inside.desks.items) c.args.router c.waiting_at-waiting.result.now c.in_ok-patch.field-0 c.in-Some.patch
    c.world.ensures (c.waiting_at-waiting.ensures (ap (λ ds. lent_at (all_lent ds) c.args.router) c.deref.ensures.value ∙ none_kept _ (free g c))) (ap writings c.deref.ensures.value) c.in-Some.is c.in_ok-patch.ensures.due

within : (g : given.Over) (c : goal.After-from g) → c.args.router < length c.self.inside.desks.items
within g c =
    let s = c.self.inside in
    desk_within s.course.network s.journal.items s.course.world g.B.FabricName.openings s.desks.items (vec_capacity s.journal) c.self.invariant.0.0 c.self.invariant.0.1 c.args.router (due g c).0 (due g c).1

pub index_mut-requires : goal.index_mut-requires
index_mut-requires g c =
    let less = within g c in
    let count : length c.self.inside.desks.items ≡ vec_len c.self.inside.desks = search rules in
    omega (arith, less, count, c.from.ensures)

-- the desk, and the patch that is due there
at_desk : (g : given.Over) (c : goal.After-index_mut g) → slice_get c.self.inside.desks.items c.args.router ≡ Some c.index_mut.result.now
at_desk g c = seat c.self.inside.desks.items c.args.router c.from.result c.index_mut.result.now (let less = within g c.before in omega (arith, less, c.from.ensures)) c.index_mut.ensures.value c.from.ensures

desk_due : (g : given.Over) (c : goal.After-index_mut g) → IsDue c.self.inside.course.network c.self.inside.journal.items c.self.inside.course.world g.B.FabricName.openings (writings c.self.inside.desks.items) c.args.router c.index_mut.result.now.writing c.in-Some.patch
desk_due g c =
    let s = c.self.inside in
    due_desk s.course.network s.journal.items s.course.world g.B.FabricName.openings s.desks.items (vec_capacity s.journal) c.self.invariant.0.0 c.self.invariant.0.1 (subst IsNetwork c.network.ensures.network c.routers-routers.ensures.valid) c.args.router c.index_mut.result.now (at_desk g c) c.in-Some.patch (due g c.before)

desk_in : (g : given.Over) (c : goal.After-index_mut g) → c.index_mut.result.now.out ≡ None
desk_in g c = is_in c.self.inside.desks.items c.args.router c.index_mut.result.now (at_desk g c) (free g c.before)

pub lend-requires-clause-here : goal.lend-requires-clause-here
lend-requires-clause-here g c = desk_in g c

pub lend-requires-clause-number : goal.lend-requires-clause-number
lend-requires-clause-number g c = next_number _ _ _ _ _ _ _ _ (desk_due g c)

pub lend-requires-clause-covers : goal.lend-requires-clause-covers
lend-requires-clause-covers g c = names_all _ _ _ _ _ _ _ _ (desk_due g c)

-- the desks afterwards
left : (g : given.Over) (c : After-lend g) → set c.self.inside.desks.items c.from.result c.lend.new.self ≡ set c.self.inside.desks.items c.args.router (desk_out c.index_mut.result.now.writing.published (patch_of c.in-Some.patch))
left g c = ap (λ k. set c.self.inside.desks.items k c.lend.new.self) c.from.ensures ∙ ap (set c.self.inside.desks.items c.args.router) c.lend.ensures.desk

pub invariant_of-self : goal.invariant_of-self
invariant_of-self g c =
    let s = c.self.inside in
    let d = c.index_mut.result.now in
    let D = desk_due g c.before.before in
    let short : length s.journal.items + count_lent (all_lent s.desks.items) < most_steps = subst (λ (f : Fabric). length f.journal + count_lent f.lent < most_steps) (sym c.self.view_is) c.in_ok-admits.ensures.place in (
      (
        subst (λ ds. IsFabric (fabric_seen g.B.FabricName.openings s.course.network s.journal.items s.course.world ds) (vec_capacity s.journal)) (sym (left g c.before))
            (kept_away s.course.network s.journal.items s.course.world g.B.FabricName.openings s.desks.items c.args.router d c.in-Some.patch D (at_desk g c.before.before) (desk_in g c.before.before) (vec_capacity s.journal) c.self.invariant.0.0 short),
        subst (λ ds. AreWriters s.course.world (writings ds)) (sym (left g c.before))
            (writers_away s.course.network s.journal.items s.course.world g.B.FabricName.openings s.desks.items c.args.router d c.in-Some.patch D (at_desk g c.before.before) (desk_in g c.before.before) c.self.invariant.0.1),
        subst (ArePending s.course.world) (sym (left g c.before))
            (pending_away s.course.network s.journal.items s.course.world g.B.FabricName.openings s.desks.items c.args.router d c.in-Some.patch D (at_desk g c.before.before) (desk_in g c.before.before) c.self.invariant.0.2),
        c.self.invariant.0.3,
        c.self.invariant.0.4,
        (let more = count_away s.course.network s.journal.items s.course.world g.B.FabricName.openings s.desks.items c.args.router d c.in-Some.patch D (at_desk g c.before.before) (desk_in g c.before.before) in
            let same = ap (λ ds. count_lent (all_lent ds)) (left g c.before) in
            let aside = c.self.invariant.0.5 in
            omega (arith, more, same, aside)),
      ),
      c.self.invariant.1,
    )

pub returns-clause-fresh : goal.returns-clause-fresh
returns-clause-fresh g c = (ap (λ (o : Outing). (o.before).router) c.lend.ensures.ticket ∙ number_is _ _ _ _ _ _ _ _ (desk_due g c.before.before), ap (λ (o : Outing). o.is_published) c.lend.ensures.ticket)

-- what the writer had published
shown : (g : given.Over) (c : After-lend g) → image_of g.B.FabricName.openings c.lend.result.before ≡ image_of g.B.FabricName.openings c.index_mut.result.now.writing.published
shown g c = ap (λ (o : Outing). image_of g.B.FabricName.openings o.before) c.lend.ensures.ticket

pub returns-clause-in_force : goal.returns-clause-in_force
returns-clause-in_force g c =
    let desks = c.self.inside.desks.items in
    ap (λ (f : Fabric). slice_get f.images c.args.router) (sym c.self.view_is)
    ∙ slice_get-map (λ (x : Writing). image_of g.B.FabricName.openings x.published) (writings desks) c.args.router
    ∙ ap (option_map (λ (x : Writing). image_of g.B.FabricName.openings x.published)) (writing_there desks c.args.router c.index_mut.result.now (at_desk g c.before.before))
    ∙ ap Some (sym (shown g c.before))

pub returns-clause-patch : goal.returns-clause-patch
returns-clause-patch g c =
    let D = desk_due g c.before.before in
    ap (λ (f : Fabric). due_at f.world c.args.router) (sym c.self.view_is) ∙ D.due
    ∙ ap (λ image. Some (patched c.in-Some.patch.generation c.in-Some.patch.rows.items image)) (sym (shows _ _ _ _ _ _ _ _ D) ∙ sym (shown g c.before))
    ∙ ap (λ (p : Patch). Some (patched p.generation p.rows (image_of g.B.FabricName.openings c.lend.result.before))) (sym (ap (λ (o : Outing). o.patch) c.lend.ensures.ticket))

pub returns-clause-ok : goal.returns-clause-ok
returns-clause-ok g c =
    let s = c.self.inside in
    let d = c.index_mut.result.now in
    let D = desk_due g c.before.before in
    ap (λ ds. fabric_seen g.B.FabricName.openings s.course.network s.journal.items s.course.world ds) (left g c.before)
    ∙ ap (λ images. fabric_of s.course.network s.journal.items s.course.world images (all_lent (set s.desks.items c.args.router (desk_out d.writing.published (patch_of c.in-Some.patch)))))
    (shown_away s.course.network s.journal.items s.course.world g.B.FabricName.openings s.desks.items c.args.router d c.in-Some.patch D (at_desk g c.before.before) (desk_in g c.before.before))
    ∙ ap (fabric_of s.course.network s.journal.items s.course.world (shown_images g.B.FabricName.openings (writings s.desks.items)))
    (lent_away s.course.network s.journal.items s.course.world g.B.FabricName.openings s.desks.items c.args.router d c.in-Some.patch D (at_desk g c.before.before) (desk_in g c.before.before))
    ∙ ap (λ (o : Outing). with_lent (fabric_seen g.B.FabricName.openings s.course.network s.journal.items s.course.world s.desks.items) c.args.router (Some o.patch)) (sym c.lend.ensures.ticket)
    ∙ ap (λ (f : Fabric). with_lent f c.args.router (Some c.lend.result.patch)) c.self.view_is

-- ---- why it is refused, or not

pub returns-in_err-patch-clause-cause : goal.returns-in_err-patch-clause-cause
returns-in_err-patch-clause-cause g c =
    let due = subst (λ w. IsSome (due_at w c.args.router)) (c.world.ensures ∙ ap (λ (f : Fabric). f.world) c.self.view_is) c.in_err-patch.ensures.err in
    memory_lacked (fabric_refusal c.args.self.now (Publish c.args.router)) c.from_residual-in_err-patch.result
    (admitted c.args.self.now c.args.self.now.world (Publish c.args.router) c.args.router c.in_ok-admits.ensures.cause refl refl due) c.from_residual-in_err-patch.ensures.1

pub why_not_due-requires : goal.why_not_due-requires
why_not_due-requires g c =
    subst (λ w. due_at w c.args.router ≡ None) (c.world.ensures ∙ ap (λ (f : Fabric). f.world) c.self.view_is) (rw c.in_default.is at c.in_ok-patch.ensures.due)

pub returns-in_err-copy-clause-cause : goal.returns-in_err-copy-clause-cause
returns-in_err-copy-clause-cause g c =
    let due = due_seen c.world.result.now c.args.self.now.world c.args.router c.waiting_at-waiting.result.now c.in_ok-patch.field-0 c.in-Some.patch (c.world.ensures ∙ ap (λ (f : Fabric). f.world) c.self.view_is) c.in-Some.is c.in_ok-patch.ensures.due in
    memory_lacked (fabric_refusal c.args.self.now (Publish c.args.router)) c.from_residual-in_err-copy.result
    (admitted c.args.self.now c.args.self.now.world (Publish c.args.router) c.args.router c.in_ok-admits.ensures.cause refl refl due) c.from_residual-in_err-copy.ensures.1

pub returns-clause-due : goal.returns-clause-due
returns-clause-due g c =
    due_lawful c.args.self.now.world c.args.router
    (due_seen c.world.result.now c.args.self.now.world c.args.router c.waiting_at-waiting.result.now c.in_ok-patch.field-0 c.in-Some.patch (c.world.ensures ∙ ap (λ (f : Fabric). f.world) c.self.view_is) c.in-Some.is c.in_ok-patch.ensures.due)

pub returns-clause-cause : goal.returns-clause-cause
returns-clause-cause g c =
    let due = due_seen c.world.result.now c.args.self.now.world c.args.router c.waiting_at-waiting.result.now c.in_ok-patch.field-0 c.in-Some.patch (c.world.ensures ∙ ap (λ (f : Fabric). f.world) c.self.view_is) c.in-Some.is c.in_ok-patch.ensures.due in
    not_caused (fabric_refusal c.args.self.now (Publish c.args.router)) c.lend.result (admitted c.args.self.now c.args.self.now.world (Publish c.args.router) c.args.router c.in_ok-admits.ensures.cause refl refl due)

-- a writer more is out than were
pub overflow_add-self : goal.overflow_add-self
overflow_add-self g c =
    let s = c.self.inside in
    let short : length s.journal.items + count_lent (all_lent s.desks.items) < most_steps = subst (λ (f : Fabric). length f.journal + count_lent f.lent < most_steps) (sym c.self.view_is) c.in_ok-admits.ensures.place in
    let aside = c.self.invariant.0.5 in
    omega (arith, short, aside)
