use Rattle.std.proofs.Common.{◌≡◌, ℕ, List, ◌<◌, ◌≤◌, length, get_or, map, sym, ap, subst, ◌∙◌, IfOk}
use Rattle.no_packet_loops.proofs.Common.{length-map, LinkSpec, Place, Port, Network, places_from, opening_port, opening_link, opening_router, rows_of, costs_of}
use Rattle.world.proofs.{Degrees.few_ports, Openings.place_known}
use Rattle.world.proofs.opening.opening_router.Goals as goal
use Rattle.network_model.specs.declared.network.Offer.{Offer}
use Rattle.network_model.specs.World.{with_offer_published}

pub opening_ports-requires : goal.opening_ports-requires
opening_ports-requires g c =
    let n : Network = c.args.network.now in
    subst (λ (ls : List LinkSpec). (k : ℕ) → (d : Place) → k < length c.args.places.now → (get_or c.args.places.now k d).link < length ls) (sym c.links.ensures.links)
    (subst (λ (ps : List Place). (k : ℕ) → (d : Place) → k < length ps → (get_or ps k d).link < length n.links) (sym c.requires.places) (place_known c.args.router n.links))

-- the ports are those of the definition
ports_are : (n : Network) (i : ℕ) (links : List LinkSpec) (places : List Place) (ports : List Port) → ports ≡ map (opening_port (map opening_link links)) places → places ≡ places_from 0 i n.links → links ≡ n.links
    → ports ≡ map (opening_port (map opening_link n.links)) (places_from 0 i n.links)
ports_are n i links places ports by_places by_links by_network =
    by_places ∙ ap (map (opening_port (map opening_link links))) by_links ∙ ap (λ ls. map (opening_port (map opening_link ls)) (places_from 0 i n.links)) by_network

pub new-requires : goal.new-requires
new-requires g c =
    let n : Network = c.args.network.now in
    subst (λ (ps : List Port). length ps ≤ 32) (sym (ports_are n c.args.router c.links.result.now c.args.places.now c.in_ok-ports.ports.items c.in_ok-ports.ensures c.requires.places c.links.ensures.links))
    (subst (λ m. m ≤ 32) (sym (length-map (places_from 0 c.args.router n.links) (opening_port (map opening_link n.links)))) (few_ports n c.args.router c.links.ensures.valid.no_fault))

pub returns : goal.returns
returns g c =
    let n : Network = c.args.network.now in
    let ports : _ = ports_are n c.args.router c.links.result.now c.args.places.now c.in_ok-ports.ports.items c.in_ok-ports.ensures c.requires.places c.links.ensures.links in
    subst (λ x. IfOk c.new.result (λ r. r ≡ x))
    (ap (λ (ps : List Port). opening_router ps (rows_of c.args.own.now)) ports ∙ ap (opening_router (map (opening_port (map opening_link n.links)) (places_from 0 c.args.router n.links))) c.requires.own
    ∙ ap (λ (o : Offer). with_offer_published o (opening_router (map (opening_port (map opening_link n.links)) (places_from 0 c.args.router n.links)) (costs_of n c.args.router))) (sym c.links.ensures.offer))
    c.new.ensures
