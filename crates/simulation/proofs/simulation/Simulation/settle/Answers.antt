use Rattle.simulation.proofs.Turning.{turned}
use Rattle.simulation.proofs.simulation.Simulation.settle.Goals as goal

pub returns-clause-turns : goal.returns-clause-turns
returns-clause-turns g c = turned c.args.self.now c.settle-ran.new.mover c.settle-ran.result.done c.shows.ensures c.shows-2.ensures c.settle-ran.ensures.turns
