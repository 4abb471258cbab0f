use Rattle.std.proofs.Common.{◌≡◌, ◌∙◌, ◌<◌, inl, Err, IfErr, map, refl, sym, ap, subst}
use Rattle.no_packet_loops.proofs.Common.{err_from_is_err_and}
use Rattle.router_core.proofs.Refused.{gave_up}
use Rattle.course.specs.Links.{HasLinksOfPorts}
use Rattle.simulation.specs.Simulation.{simulation_refusal}
use Rattle.course.proofs.{Links.links_of_ports, Courses.refused_as}
use Rattle.timed_simulation.specs.{declared.events.Event.Event, Events.next_event}
use Rattle.timed_simulation.specs.Links.{last_moment, link_of, links_after, motion_of}
use Rattle.timed_simulation.specs.Timed.{after_event, begins_at, routers_after, timed_of, Timed}
use Rattle.timed_simulation.specs.Runs.{steps_of, IsNext, IsStoppedFor, IsTimed}
use Rattle.timed_simulation.proofs.Runs.{after_parts, is_next, kept_after, same_parts, stopped_as}
use Rattle.timed_simulation.proofs.clocked.Clocked.do_event.Goals as goal

pub motion_of-motion-requires : goal.motion_of-motion-requires
motion_of-motion-requires g c = subst HasLinksOfPorts (sym c.world.ensures) (links_of_ports (c.self.inside.simulation).network (steps_of c.self.invariant.done) (c.self.inside.simulation).world c.self.invariant.runs)

-- no memory for the moment of an item
pub invariant_of-self : goal.invariant_of-self
invariant_of-self g c =
    let old : Timed = timed_of c.self.inside.simulation c.self.inside.clock (map link_of c.self.inside.links.items) c.self.inside.routers.items c.self.inside.changes.items in
    subst IsTimed (sym (same_parts old c.self.inside.simulation (map link_of c.reserve.new.links.items) refl c.in_err-reserve.ensures.same)) c.self.invariant

pub returns-in_err-reserve-clause-err : goal.returns-in_err-reserve-clause-err
returns-in_err-reserve-clause-err g c =
    let old : Timed = timed_of c.self.inside.simulation c.self.inside.clock (map link_of c.self.inside.links.items) c.self.inside.routers.items c.self.inside.changes.items in
    gave_up c.from_residual.result (same_parts old c.self.inside.simulation (map link_of c.reserve.new.links.items) refl c.in_err-reserve.ensures.same ∙ c.self.view_is)

pub returns-in_err-reserve-clause-cause : goal.returns-in_err-reserve-clause-cause
returns-in_err-reserve-clause-cause g c =
    let p = err_from_is_err_and c.from_residual.result c.from_residual.ensures.1 in
    let short : c.args.event.moment < last_moment = c.if-event-ge18446744073709551615.false in
    subst (λ r. IfErr r (IsStoppedFor c.args.self.now c.args.event)) (sym (p.1 ∙ ap Err p.2)) (short, inl refl)

-- the step is refused
pub invariant_of-self-in_err-step : goal.invariant_of-self-in_err-step
invariant_of-self-in_err-step g c =
    let old : Timed = timed_of c.self.inside.simulation c.self.inside.clock (map link_of c.self.inside.links.items) c.self.inside.routers.items c.self.inside.changes.items in
    subst IsTimed (sym (same_parts old c.step.new.self (map link_of c.reserve.new.links.items) c.in_err-step.ensures.err c.in_ok-reserve.ensures.same)) c.self.invariant

pub returns-in_err-step-clause-err : goal.returns-in_err-step-clause-err
returns-in_err-step-clause-err g c =
    let old : Timed = timed_of c.self.inside.simulation c.self.inside.clock (map link_of c.self.inside.links.items) c.self.inside.routers.items c.self.inside.changes.items in
    gave_up c.from_residual-in_err-step.result (same_parts old c.step.new.self (map link_of c.reserve.new.links.items) c.in_err-step.ensures.err c.in_ok-reserve.ensures.same ∙ c.self.view_is)

pub returns-in_err-step-clause-cause : goal.returns-in_err-step-clause-cause
returns-in_err-step-clause-cause g c =
    let old : Timed = timed_of c.self.inside.simulation c.self.inside.clock (map link_of c.self.inside.links.items) c.self.inside.routers.items c.self.inside.changes.items in
    let p = err_from_is_err_and c.from_residual-in_err-step.result c.from_residual-in_err-step.ensures.1 in
    let short : c.args.event.moment < last_moment = c.if-event-ge18446744073709551615.false in
    let refusal = c.in_err-step.field-0.0 in
    subst (λ t. IfErr c.from_residual-in_err-step.result (IsStoppedFor t c.args.event)) c.self.view_is
    (subst (λ r. IfErr r (IsStoppedFor old c.args.event)) (sym (p.1 ∙ ap Err p.2))
    (short, stopped_as (simulation_refusal c.self.inside.simulation c.args.event.step) refusal (refused_as _ (simulation_refusal c.self.inside.simulation c.args.event.step) refusal c.in_err-step.ensures.cause)))

-- done
pub invariant_of-self-2 : goal.invariant_of-self-2
invariant_of-self-2 g c =
    let old : Timed = timed_of c.self.inside.simulation c.self.inside.clock (map link_of c.self.inside.links.items) c.self.inside.routers.items c.self.inside.changes.items in
    let e : Event = c.args.event in
    let motion = c.motion_of-motion.ensures ∙ ap (λ w. motion_of w e.step) c.world.ensures in
    let begins = c.begins_at-begins.ensures ∙ ap (λ w. begins_at w e.step) c.world-2.ensures in
    let is : IsNext old e = is_next old e c.self.invariant (ap next_event c.self.view_is ∙ c.requires) c.if-event-ge18446744073709551615.false c.in_ok-step.ensures.ok.0 in
    subst IsTimed
    (sym (after_parts old e c.step.new.self (map link_of c.note.new.links.items) c.note_begun.new.routers.items c.take_done.new.changes.items c.in_ok-step.ensures.ok.1
    (c.note.ensures ∙ ap (λ o. links_after e.moment o (map link_of c.reserve.new.links.items)) motion ∙ ap (links_after e.moment (motion_of c.self.inside.simulation.world e.step)) c.in_ok-reserve.ensures.same)
    (c.note_begun.ensures ∙ ap (λ o. routers_after e.moment o c.self.inside.routers.items) begins)
    c.take_done.ensures))
    (kept_after old e c.self.invariant is)

pub returns-clause-ok : goal.returns-clause-ok
returns-clause-ok g c =
    let old : Timed = timed_of c.self.inside.simulation c.self.inside.clock (map link_of c.self.inside.links.items) c.self.inside.routers.items c.self.inside.changes.items in
    let e : Event = c.args.event in
    let motion = c.motion_of-motion.ensures ∙ ap (λ w. motion_of w e.step) c.world.ensures in
    let begins = c.begins_at-begins.ensures ∙ ap (λ w. begins_at w e.step) c.world-2.ensures in
    let is : IsNext old e = is_next old e c.self.invariant (ap next_event c.self.view_is ∙ c.requires) c.if-event-ge18446744073709551615.false c.in_ok-step.ensures.ok.0 in
    subst (λ t. IsNext t e × (timed_of c.step.new.self e.moment (map link_of c.note.new.links.items) c.note_begun.new.routers.items c.take_done.new.changes.items ≡ after_event t e)) c.self.view_is (
      is,
      after_parts old e c.step.new.self (map link_of c.note.new.links.items) c.note_begun.new.routers.items c.take_done.new.changes.items c.in_ok-step.ensures.ok.1
          (c.note.ensures ∙ ap (λ o. links_after e.moment o (map link_of c.reserve.new.links.items)) motion ∙ ap (links_after e.moment (motion_of c.self.inside.simulation.world e.step)) c.in_ok-reserve.ensures.same)
          (c.note_begun.ensures ∙ ap (λ o. routers_after e.moment o c.self.inside.routers.items) begins)
          c.take_done.ensures,
    )
