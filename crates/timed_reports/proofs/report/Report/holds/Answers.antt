use Rattle.std.proofs.Common.{subst}
use Rattle.timed_simulation.specs.{Due.NothingIsLate, Runs.IsTimed}
use Rattle.timed_reports.specs.Reports.{IsReport, Reported}
use Rattle.timed_reports.proofs.report.Report.holds.Goals as goal

pub returns-clause-report : goal.returns-clause-report
returns-clause-report g c = subst IsReport c.self.view_is c.self.invariant.0

pub returns-clause-timed : goal.returns-clause-timed
returns-clause-timed g c = subst (λ (r : Reported). IsTimed r.timed) c.self.view_is c.holds.ensures.timed

pub returns-clause-on_time : goal.returns-clause-on_time
returns-clause-on_time g c = subst (λ (r : Reported). NothingIsLate r.timed) c.self.view_is c.holds.ensures.on_time
