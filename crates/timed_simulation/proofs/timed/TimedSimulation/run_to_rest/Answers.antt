use Rattle.timed_simulation.proofs.Runs.{fewer_done}
use Rattle.timed_simulation.proofs.timed.TimedSimulation.run_to_rest.Goals as goal

pub returns-clause-fewer : goal.returns-clause-fewer
returns-clause-fewer g c = fewer_done 18446744073709551615 c.args.most c.run_until-ran.result.done c.run_until-ran.new.self c.run_until-ran.result.fault c.run_until-ran.ensures.short
