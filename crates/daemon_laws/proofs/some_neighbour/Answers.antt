use Rattle.daemon_laws.proofs.Example.{some_neighbour as neighbour}
use Rattle.daemon_laws.proofs.some_neighbour.Goals as goal

pub returns : goal.returns
returns c = neighbour
