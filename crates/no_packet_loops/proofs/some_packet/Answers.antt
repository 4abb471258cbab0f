use Rattle.no_packet_loops.proofs.Example.{some_packet as example}
use Rattle.no_packet_loops.proofs.some_packet.Goals as goal

pub returns : goal.returns
returns c = example
