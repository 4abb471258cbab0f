use Rattle.std.proofs.Common.{◌∙◌, ap, subst}
use Rattle.timed_simulation.specs.{Events.change_event, Events.sooner, Runs.IsTimed}
use Rattle.timed_simulation.proofs.Runs.{due_if, first_if, nothing_if}
use Rattle.timed_simulation.proofs.timed.TimedSimulation.next_event.Goals as goal

pub returns-clause-next : goal.returns-clause-next
returns-clause-next g c =
    c.sooner.ensures ∙ ap (λ o. sooner o c.first_event.result) (c.change_event.ensures ∙ ap change_event c.self.view_is)
    ∙ ap (sooner (change_event c.args.self.now)) c.first_event.ensures

pub returns-clause-due : goal.returns-clause-due
returns-clause-due g c = due_if c.args.self.now (subst IsTimed c.self.view_is c.holds.ensures.timed) c.sooner.result (returns-clause-next g c)

pub returns-clause-first : goal.returns-clause-first
returns-clause-first g c = first_if c.args.self.now (subst IsTimed c.self.view_is c.holds.ensures.timed) c.sooner.result (returns-clause-next g c)

pub returns-clause-none : goal.returns-clause-none
returns-clause-none g c = nothing_if c.args.self.now (subst IsTimed c.self.view_is c.holds.ensures.timed) c.sooner.result (returns-clause-next g c)
