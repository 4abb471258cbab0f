use Rattle.no_packet_loops.proofs.Walks.{distances_fall as falls}
use Rattle.no_packet_loops.proofs.distances_fall.Goals as goal

pub returns : goal.returns
returns c = falls
