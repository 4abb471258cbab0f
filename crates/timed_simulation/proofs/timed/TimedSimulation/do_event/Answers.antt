use Rattle.std.proofs.Common.{◌≡◌, ◌∙◌, Err, IfErr, length, sym, ap, subst}
use Rattle.no_packet_loops.proofs.{Common.err_from_is_err_and, WorldLaws.next-shape}
use Rattle.router_core.proofs.Refused.{gave_up}
use Rattle.simulation.specs.Simulation.{Simulation}
use Rattle.world.specs.Touched.{touched_by}
use Rattle.timed_simulation.specs.{Timed.Timed, Timed.after_event, Timed.world_of, Events.next_event, Next.KeepsMoments, Runs.IsNext, Runs.IsStoppedFor}
use Rattle.timed_simulation.proofs.Nexts.{kept_after, kept_seen}
use Rattle.timed_simulation.proofs.timed.TimedSimulation.do_event.Goals as goal

pub do_event-requires : goal.do_event-requires
do_event-requires g c = ap next_event c.self.view_is ∙ c.requires

-- there are as many routers as before
pub look_again-requires : goal.look_again-requires
look_again-requires g c =
    c.self.invariant.as_many ∙ sym (next-shape (world_of c.self.inside.clocked) (c.args.event).step).routers
    ∙ sym (ap (λ (t : Timed). length (world_of t).routers) c.in_ok-do_event.ensures.ok.1)

-- the event is not done
pub invariant_of-self : goal.invariant_of-self
invariant_of-self g c = subst (λ t. KeepsMoments t c.self.inside.minima) (sym c.in_err-do_event.ensures.err) c.self.invariant

pub returns-in_err-do_event-clause-err : goal.returns-in_err-do_event-clause-err
returns-in_err-do_event-clause-err g c = gave_up c.from_residual.result (c.in_err-do_event.ensures.err ∙ c.self.view_is)

pub returns-in_err-do_event-clause-cause : goal.returns-in_err-do_event-clause-cause
returns-in_err-do_event-clause-cause g c =
    let p = err_from_is_err_and c.from_residual.result c.from_residual.ensures.1 in
    subst (λ t. IfErr c.from_residual.result (IsStoppedFor t c.args.event)) c.self.view_is
    (subst (λ r. IfErr r (IsStoppedFor c.self.inside.clocked c.args.event)) (sym (p.1 ∙ ap Err p.2)) c.in_err-do_event.ensures.cause)

-- done: those that it touched were asked again
pub invariant_of-self-2 : goal.invariant_of-self-2
invariant_of-self-2 g c =
    let t : Timed = c.self.inside.clocked in
    let done = c.in_ok-do_event.ensures.ok in
    let touched = c.by-touched.ensures.named ∙ ap (touched_by (c.args.event).step) (c.world.ensures ∙ ap (λ (s : Simulation). s.world) c.simulation.ensures) in
    kept_seen (after_event t c.args.event) c.do_event.new.self (touched_by (c.args.event).step (world_of t)) c.by-touched.result c.self.inside.minima c.look_again.new.minima
    done.1 touched c.look_again.ensures (kept_after t c.args.event c.self.inside.minima c.holds.ensures.timed done.0 c.self.invariant)

pub returns-clause-ok : goal.returns-clause-ok
returns-clause-ok g c = subst (λ (t : Timed). IsNext t c.args.event × (c.do_event.new.self ≡ after_event t c.args.event)) c.self.view_is c.in_ok-do_event.ensures.ok
