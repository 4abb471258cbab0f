use Rattle.std.proofs.Common.{◌≡◌, ◌∙◌, ap, sym, subst, drop, length, slice_get}
use Rattle.simulation.specs.Simulation.{Simulation}
use Rattle.timed_simulation.specs.Timed.{Timed}
use Rattle.reachability.specs.Marks.{size}
use Rattle.timed_reports.specs.Reports.{Reported, reported_of}
use Rattle.timed_reports.proofs.Whole.{report_kept}
use Rattle.timed_reports.proofs.report.Report.withdraw.Goals as goal

pub invariant_of-self : goal.invariant_of-self
invariant_of-self g c =
    let old : Reported = reported_of c.self.inside.timed c.self.inside.computations.items c.self.inside.computing.items c.self.inside.outages.items c.self.inside.cut_off.items in
    let simulation : (c.withdraw.new.self).simulation ≡ (c.self.inside.timed).simulation = ap (λ (t : Timed). t.simulation) c.withdraw.ensures.rest in (
      report_kept old c.withdraw.new.self (simulation, ap (λ (t : Timed). t.clock) c.withdraw.ensures.rest) c.self.invariant.0,
      subst (λ (s : Simulation). size c.self.inside.cut ≡ length (s.world).routers) (sym simulation) c.self.invariant.1,
      subst (λ (s : Simulation). length c.self.inside.marks.items ≡ length (s.world).prefixes) (sym simulation) c.self.invariant.2,
    )

pub returns-clause-change : goal.returns-clause-change
returns-clause-change g c = c.withdraw.ensures.change ∙ ap (λ (r : Reported). slice_get (r.timed).changes 0) c.self.view_is

pub returns-clause-rest : goal.returns-clause-rest
returns-clause-rest g c =
    let old : Reported = reported_of c.self.inside.timed c.self.inside.computations.items c.self.inside.computing.items c.self.inside.outages.items c.self.inside.cut_off.items in
    let new : Reported = record old { timed = c.withdraw.new.self } in
    subst (λ (r : Reported). new ≡ record r { timed = record r.timed { changes = drop 1 (r.timed).changes } }) c.self.view_is (ap (λ (t : Timed). record old { timed = t }) c.withdraw.ensures.rest)
