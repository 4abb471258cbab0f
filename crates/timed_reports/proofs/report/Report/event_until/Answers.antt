use Rattle.std.proofs.Common.{◌≡◌, ◌≤◌, IfSome, None, Some, subst}
use Rattle.timed_simulation.specs.{declared.events.Event.Event, Events.next_event, Due.IsDoneUntil}
use Rattle.timed_reports.specs.Reports.{Reported}
use Rattle.timed_reports.proofs.report.Report.event_until.Goals as goal

pub returns-clause-some : goal.returns-clause-some
returns-clause-some g c = subst (λ (r : Reported). IfSome c.next_until.result (λ (e : Event). (next_event r.timed ≡ Some e) × (e.moment ≤ c.args.moment))) c.self.view_is c.next_until.ensures.some

pub returns-clause-none : goal.returns-clause-none
returns-clause-none g c = subst (λ (r : Reported). c.next_until.result ≡ None → IsDoneUntil c.args.moment r.timed) c.self.view_is c.next_until.ensures.none
