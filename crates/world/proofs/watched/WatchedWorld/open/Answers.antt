use Rattle.std.proofs.Common.{◌≤◌, length, subst}
use Rattle.network_model.specs.Network.{most_links}
use Rattle.no_packet_loops.proofs.Wiring.{few_routers}
use Rattle.world.proofs.Rest.{watched-opening}
use Rattle.world.proofs.watched.WatchedWorld.open.Goals as goal

pub invariant_of-result : goal.invariant_of-result
invariant_of-result g c =
    watched-opening c.args.network.now c.in_ok-world.world c.in_ok-world.ensures
    (subst (λ links. length links ≤ most_links) c.links-links.ensures.links c.links-links.ensures.few) (few_routers c.args.network.now c.links-links.ensures.valid)
