use Rattle.no_packet_loops.proofs.FourFacts.{always_four_facts}
use Rattle.no_packet_loops.proofs.four_facts.Goals as goal

pub returns : goal.returns
returns c = always_four_facts
