use Rattle.std.proofs.Common.{◌≤◌, arith, inl, inr, refl, sym, subst}
use Rattle.timed_simulation.specs.{Timed.Timed, Runs.IsStoppedAt, Runs.IsStoppedShort}
use Rattle.timed_reports.specs.Reports.{Reported}
use Rattle.timed_reports.proofs.Whole.{run_begins, run_goes_on}
use Rattle.timed_reports.proofs.report.Report.run_until.Goals as goal

pub loop-done-init : goal.loop-done-init
loop-done-init g c = record { run = run_begins c.args.self.now; until = inl refl }

pub loop-done-preserved : goal.loop-done-preserved
loop-done-preserved g c =
    let done = c.in_default-do_event.ensures.ok in
    record {
      run = run_goes_on c.args.self.now c.loop-done.self c.do_event.new.self c.loop-done.done c.in-Some.event c.loop-done.invariant.run done.0 done.1 done.2;
      until = inr (subst (λ (u : Timed). u.clock ≤ c.args.moment) (sym done.1) c.in-Some.ensures.some.1);
    }

-- the event could not be done
pub returns-in-Err-clause-stop : goal.returns-in-Err-clause-stop
returns-in-Err-clause-stop g c = subst (λ (u : Reported). IsStoppedAt u.timed c.in-Err.fault) (sym c.in-Err.ensures.err) c.in-Err.ensures.cause

pub returns-in-Err-clause-short : goal.returns-in-Err-clause-short
returns-in-Err-clause-short g c =
    let below = c.loop-done-test.true in
    subst (λ (u : Reported). IsStoppedShort c.args.moment c.args.most c.loop-done.done u.timed) (sym c.in-Err.ensures.err) (record {
      event = c.in-Some.event;
      next = c.in-Some.ensures.some.0;
      due = c.in-Some.ensures.some.1;
      few = omega (arith, below);
    })
