use Rattle.std.proofs.Common.{take}
use Rattle.simulation.proofs.Simulations.{after_course}
use Rattle.simulation.proofs.simulation.Simulation.run.Goals as goal

pub returns-clause-after : goal.returns-clause-after
returns-clause-after g c = after_course c.args.self.now c.run-ran.new.mover (take c.run-ran.result.done c.args.steps.now) c.shows.ensures c.shows-2.ensures c.run-ran.ensures.after
