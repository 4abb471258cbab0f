use Rattle.std.proofs.Common.{◌∙◌, ap, length, subst, sym}
use Rattle.timed_simulation.specs.Timed.{Timed, world_of}
use Rattle.timed_reports.specs.Reports.{reported_of, IsReport, Reported}
use Rattle.timed_reports.proofs.Whole.{equal_report}
use Rattle.timed_reports.proofs.report.Report.copy.Goals as goal

-- the copy of each part is equal to it, and there is as much room for marks
pub invariant_of-result : goal.invariant_of-result
invariant_of-result g c =
    let old : Reported = reported_of c.self.inside.timed c.self.inside.computations.items c.self.inside.computing.items c.self.inside.outages.items c.self.inside.cut_off.items in (
      subst IsReport
          (sym (equal_report old c.in_ok-timed.timed c.in_ok-computations.computations.items c.in_ok-computing.computing.items c.in_ok-outages.outages.items c.in_ok-cut_off.cut_off.items
          c.in_ok-timed.ensures (c.in_ok-computations.ensures.items ∙ c.deref.ensures.value) (c.in_ok-computing.ensures.items ∙ c.deref-2.ensures.value)
          (c.in_ok-outages.ensures.items ∙ c.deref-3.ensures.value) (c.in_ok-cut_off.ensures.items ∙ c.deref-4.ensures.value))) c.self.invariant.0,
      c.in_ok-cut.ensures.size ∙ c.routers.ensures ∙ c.self.invariant.1 ∙ sym (ap (λ (t : Timed). length (world_of t).routers) c.in_ok-timed.ensures),
      ap length (c.in_ok-marks.ensures.items ∙ c.deref-5.ensures.value) ∙ c.self.invariant.2 ∙ sym (ap (λ (t : Timed). length (world_of t).prefixes) c.in_ok-timed.ensures),
    )

pub returns : goal.returns
returns g c =
    let old : Reported = reported_of c.self.inside.timed c.self.inside.computations.items c.self.inside.computing.items c.self.inside.outages.items c.self.inside.cut_off.items in
    equal_report old c.in_ok-timed.timed c.in_ok-computations.computations.items c.in_ok-computing.computing.items c.in_ok-outages.outages.items c.in_ok-cut_off.cut_off.items
    c.in_ok-timed.ensures (c.in_ok-computations.ensures.items ∙ c.deref.ensures.value) (c.in_ok-computing.ensures.items ∙ c.deref-2.ensures.value)
    (c.in_ok-outages.ensures.items ∙ c.deref-3.ensures.value) (c.in_ok-cut_off.ensures.items ∙ c.deref-4.ensures.value)
    ∙ c.self.view_is
