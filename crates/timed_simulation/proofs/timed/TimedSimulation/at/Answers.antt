use Rattle.std.proofs.Common.{◌≡◌, subst, OnErr, OnOk}
use Rattle.timed_simulation.specs.{Timed.Timed, Timed.with_timed_change, Runs.IsGivenOr}
use Rattle.timed_simulation.proofs.Nexts.{kept_given}
use Rattle.timed_simulation.proofs.timed.TimedSimulation.at.Goals as goal

pub invariant_of-self : goal.invariant_of-self
invariant_of-self g c = kept_given c.self.inside.clocked c.at.new.self (record { moment = c.args.moment; step = c.args.change }) c.self.inside.minima c.at.result c.at.ensures.ok c.at.ensures.err c.self.invariant

pub returns-clause-ok : goal.returns-clause-ok
returns-clause-ok g c = subst (λ (t : Timed). OnOk c.at.result (c.at.new.self ≡ with_timed_change (record { moment = c.args.moment; step = c.args.change }) t)) c.self.view_is c.at.ensures.ok

pub returns-clause-err : goal.returns-clause-err
returns-clause-err g c = subst (λ (t : Timed). OnErr c.at.result (c.at.new.self ≡ t)) c.self.view_is c.at.ensures.err

pub returns-clause-cause : goal.returns-clause-cause
returns-clause-cause g c = subst (λ (t : Timed). IsGivenOr t.clock c.args.moment c.at.result) c.self.view_is c.at.ensures.cause
