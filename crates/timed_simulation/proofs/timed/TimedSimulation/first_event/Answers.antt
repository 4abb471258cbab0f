use Rattle.std.proofs.Common.{◌∙◌, sym, ap, subst, length, IfNone, IfSome}
use Rattle.minima.specs.Trees.{IsFirstDue, NoneDue}
use Rattle.timed_simulation.specs.{Timed.Timed, Timed.world_of, Events.router_event, Events.soonest}
use Rattle.timed_simulation.proofs.Nexts.{next_none, next_soonest, router_known}
use Rattle.timed_simulation.proofs.timed.TimedSimulation.first_event.Goals as goal

pub router_event-requires : goal.router_event-requires
router_event-requires g c = router_known c.self.inside.clocked c.self.inside.minima c.self.invariant c.in-Some.due (subst (λ o. IfSome o (IsFirstDue c.self.inside.minima)) c.in-Some.is c.first.ensures.some)

pub returns-in-Some : goal.returns-in-Some
returns-in-Some g c =
    c.router_event.ensures
    ∙ sym (next_soonest c.self.inside.clocked c.self.inside.minima c.self.invariant c.in-Some.due (subst (λ o. IfSome o (IsFirstDue c.self.inside.minima)) c.in-Some.is c.first.ensures.some))
    ∙ ap (λ (t : Timed). soonest (router_event t) (length (world_of t).routers)) c.self.view_is

pub returns-in-None : goal.returns-in-None
returns-in-None g c =
    sym (next_none c.self.inside.clocked c.self.inside.minima c.self.invariant (subst (λ o. IfNone o (NoneDue c.self.inside.minima)) c.in-None.is c.first.ensures.none))
    ∙ ap (λ (t : Timed). soonest (router_event t) (length (world_of t).routers)) c.self.view_is
