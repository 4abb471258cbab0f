use Rattle.std.proofs.Common.{◌≤◌, arith, inr, sym, subst}
use Rattle.timed_simulation.specs.{Timed.Timed, Runs.IsStoppedAt, Runs.IsStoppedShort}
use Rattle.timed_simulation.proofs.{Lawful.own_spent, Runs.run_more}
use Rattle.timed_simulation.proofs.timed.TimedSimulation.do_events.Goals as goal

pub loop-done-preserved : goal.loop-done-preserved
loop-done-preserved g c =
    let done = c.in_default-do_event.ensures.ok in
    record {
      run = run_more c.args.self.now c.loop-done.self c.do_event.new.self c.loop-done.done c.in-Some.event c.loop-done.invariant.run done.0 done.1;
      until = inr (subst (λ (u : Timed). u.clock ≤ c.args.moment) (sym done.1) c.in-Some.ensures.some.1);
    }

-- the event could not be done
pub returns-in-Err-clause-stop : goal.returns-in-Err-clause-stop
returns-in-Err-clause-stop g c =
    let next = c.in-Some.ensures.some.0 in
    let cause = c.in-Err.ensures.cause in
    subst (λ u. IsStoppedAt u c.in-Err.fault) (sym c.in-Err.ensures.err) (record {
      event = c.in-Some.event;
      next = next;
      cause = cause;
      own = own_spent c.loop-done.self c.in-Some.event c.in-Err.fault next cause;
    })

pub returns-in-Err-clause-short : goal.returns-in-Err-clause-short
returns-in-Err-clause-short g c =
    let below = c.loop-done-test.true in
    subst (IsStoppedShort c.args.moment c.args.most c.loop-done.done) (sym c.in-Err.ensures.err) (record {
      event = c.in-Some.event;
      next = c.in-Some.ensures.some.0;
      due = c.in-Some.ensures.some.1;
      few = omega (arith, below);
    })
