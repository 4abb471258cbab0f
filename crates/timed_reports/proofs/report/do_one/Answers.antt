use Rattle.std.proofs.Common.{◌≡◌, ◌⊎◌, arith, MatchOption, Option, subst}
use Rattle.timed_simulation.specs.{declared.fault.TimeFault.TimeFault, Due.IsDoneUntil, Runs.IsStoppedAt}
use Rattle.timed_reports.proofs.Stops.{done_one, done_some}
use Rattle.timed_reports.proofs.report.do_one.Goals as goal

pub returns-then-ran-gt0-clause-ok : goal.returns-then-ran-gt0-clause-ok
returns-then-ran-gt0-clause-ok g c =
    let some = c.if-ran-gt0.true in
    done_one c.args.timed.now c.args.event.now c.requires c.run_until-ran.new.self c.run_until-ran.result.done c.run_until-ran.ensures.run c.run_until-ran.ensures.most
    (λ none. absurd (omega (arith, none, some)))

pub unreachable-requires : goal.unreachable-requires
unreachable-requires g c =
    let none = c.if-ran-gt0.false in
    done_some c.args.timed.now c.args.event.now c.requires c.run_until-ran.new.self c.holds.ensures.timed c.run_until-ran.result.done c.run_until-ran.ensures.run
    (subst (λ (o : Option TimeFault). MatchOption o (IsDoneUntil c.args.event.now.moment c.run_until-ran.new.self ⊎ (c.run_until-ran.result.done ≡ 1)) (IsStoppedAt c.run_until-ran.new.self)) c.in-None.is c.run_until-ran.ensures.stop)
    (omega (arith, none))
