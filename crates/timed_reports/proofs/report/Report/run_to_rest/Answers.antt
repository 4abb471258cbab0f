use Rattle.std.proofs.Common.{◌≡◌, subst}
use Rattle.timed_simulation.specs.{Timed.Timed, Due.IsDoneUntil, Runs.IsAtRest, Runs.IsStoppedAt}
use Rattle.timed_simulation.proofs.Runs.{fewer_done}
use Rattle.timed_reports.proofs.Stops.{rests_or}
use Rattle.timed_reports.proofs.report.Report.run_to_rest.Goals as goal

pub returns-clause-stop : goal.returns-clause-stop
returns-clause-stop g c = rests_or 18446744073709551615 c.run_until-ran.result.fault (c.run_until-ran.new.self).timed (c.run_until-ran.result.done ≡ c.args.most) (IsStoppedAt (c.run_until-ran.new.self).timed)
    (subst (λ (t : Timed). IsDoneUntil 18446744073709551615 t → IsAtRest t) c.timed.ensures c.rests.ensures) c.run_until-ran.ensures.stop

pub returns-clause-fewer : goal.returns-clause-fewer
returns-clause-fewer g c = fewer_done 18446744073709551615 c.args.most c.run_until-ran.result.done (c.run_until-ran.new.self).timed c.run_until-ran.result.fault c.run_until-ran.ensures.short
