use Rattle.std.proofs.Common.{◌≡◌, ◌∙◌, refl, ap, sym, subst, length}
use Rattle.std.proofs.lemmas.Result.{on_err_weaker, on_ok_weaker}
use Rattle.simulation.specs.Simulation.{Simulation}
use Rattle.timed_simulation.specs.{Timed.Timed, Timed.with_timed_change, Runs.IsGivenOr}
use Rattle.reachability.specs.Marks.{size}
use Rattle.timed_reports.specs.Reports.{Reported, reported_of}
use Rattle.timed_reports.proofs.Whole.{report_kept, timed_either}
use Rattle.timed_reports.proofs.report.Report.at.Goals as goal

pub invariant_of-self : goal.invariant_of-self
invariant_of-self g c =
    let old : Reported = reported_of c.self.inside.timed c.self.inside.computations.items c.self.inside.computing.items c.self.inside.outages.items c.self.inside.cut_off.items in
    let changed : Timed = with_timed_change (record { moment = c.args.moment; step = c.args.change }) c.self.inside.timed in
    let same = timed_either c.at.result c.self.inside.timed c.at.new.self changed c.at.ensures.ok c.at.ensures.err refl refl in (
      report_kept old c.at.new.self same c.self.invariant.0,
      subst (λ (s : Simulation). size c.self.inside.cut ≡ length (s.world).routers) (sym same.0) c.self.invariant.1,
      subst (λ (s : Simulation). length c.self.inside.marks.items ≡ length (s.world).prefixes) (sym same.0) c.self.invariant.2,
    )

pub returns-clause-ok : goal.returns-clause-ok
returns-clause-ok g c =
    let old : Reported = reported_of c.self.inside.timed c.self.inside.computations.items c.self.inside.computing.items c.self.inside.outages.items c.self.inside.cut_off.items in
    let new : Reported = record old { timed = c.at.new.self } in
    on_ok_weaker c.at.result (λ (e : c.at.new.self ≡ with_timed_change (record { moment = c.args.moment; step = c.args.change }) c.self.inside.timed).
    subst (λ (r : Reported). new ≡ record r { timed = with_timed_change (record { moment = c.args.moment; step = c.args.change }) r.timed }) c.self.view_is (ap (λ (t : Timed). record old { timed = t }) e)) c.at.ensures.ok

pub returns-clause-err : goal.returns-clause-err
returns-clause-err g c =
    let old : Reported = reported_of c.self.inside.timed c.self.inside.computations.items c.self.inside.computing.items c.self.inside.outages.items c.self.inside.cut_off.items in
    on_err_weaker c.at.result (λ (e : c.at.new.self ≡ c.self.inside.timed). ap (λ (t : Timed). record old { timed = t }) e ∙ c.self.view_is) c.at.ensures.err

pub returns-clause-cause : goal.returns-clause-cause
returns-clause-cause g c = subst (λ (r : Reported). IsGivenOr (r.timed).clock c.args.moment c.at.result) c.self.view_is c.at.ensures.cause
