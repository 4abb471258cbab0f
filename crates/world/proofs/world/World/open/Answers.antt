use Rattle.std.proofs.Common.{◌≡◌, sym, ap, subst, ◌∙◌, map}
use Rattle.no_packet_loops.proofs.Common.{Network, opening, opening_link}
use Rattle.world.specs.{Kept.IsWorld, Parts.world_of_parts}
use Rattle.world.proofs.Openings.{opening-kept}
use Rattle.world.proofs.world.World.open.Goals as goal

pub invariant_of-result : goal.invariant_of-result
invariant_of-result g c =
    let n : Network = c.args.network.now in
    let links : c.in_ok-links.links.links ≡ (opening n).links = c.in_ok-links.ensures.ok ∙ ap (map opening_link) c.links.ensures.links in
    let same : world_of_parts c.in_ok-places.places.items c.in_ok-links.links.links c.in_ok-prefixes.prefixes.items c.in_ok-attachments.attachments.items c.in_ok-routers.routers.items ≡ opening n
    = λ i. record { places = c.in_ok-places.ensures i; links = links i; prefixes = c.in_ok-prefixes.ensures i; attachments = c.in_ok-attachments.ensures i; routers = c.in_ok-routers.ensures i } in
    subst IsWorld (sym same) (opening-kept n)
