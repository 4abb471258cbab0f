use Rattle.no_packet_loops.proofs.Wiring.{few_routers}
use Rattle.world.specs.Parts.{network_of_parts}
use Rattle.world.proofs.network.Network.routers.Goals as goal

pub returns-clause-few : goal.returns-clause-few
returns-clause-few c = few_routers (network_of_parts c.self.inside.routers c.self.inside.links.items c.self.inside.attachments.items) c.self.invariant.0
