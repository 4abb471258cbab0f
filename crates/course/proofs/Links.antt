-- What code rests on that finds its way over links, in the world of every run.
use Rattle.std.proofs.Common.{sym, ap, ◌∙◌, arith, ◌≡◌, ◌<◌, ◌∷◌, List, length, slice_get, option_and_then}
use Rattle.no_packet_loops.proofs.Common.{length-map, length-map-range_with_len, slice_get_within, Place, Network, World, opening, opening_link, IsNetwork, Runs, history, at_port, Step}
use Rattle.no_packet_loops.proofs.{Places.laid, Runs.reached, Walks.leads_known, Wiring.wired, WorldLaws.Runs-shape}
use Rattle.all_packets.proofs.Ways.{always_ways_end, way_moves}
use Rattle.course.specs.Links.{HasLinksOfPorts, HasShortWays, LeadsToRouters}

module _ (n : Network) (ss : List Step) (w : World) (runs : Runs (opening n) ss w) where
  -- the link at each port is one of the network's
  pub links_of_ports : HasLinksOfPorts w
  links_of_ports i q place at =
      let shape = Runs-shape (opening n) ss w runs in
      let same : length w.links ≡ length n.links = shape.links ∙ length-map n.links opening_link in
      let L = laid n (at_port i q) place (ap (λ (ps : List (List Place)). option_and_then (λ (xs : List Place). slice_get xs q) (slice_get ps i)) (sym shape.places) ∙ at) in
      let within : place.link < length n.links = slice_get_within n.links place.link L.spec L.is_link in
      omega (arith, same, within)

  -- entries lead to its routers
  pub leads_to_routers : IsNetwork n → LeadsToRouters w
  leads_to_routers valid i entry k leads =
      let count : length w.routers ≡ n.routers = (Runs-shape (opening n) ss w runs).routers ∙ length-map-range_with_len _ 0 n.routers in
      let known : k < n.routers = leads_known n (wired n valid) (record { addr = 0; len = 0 }) w (history n ss).published (reached n (wired n valid) (record { addr = 0; len = 0 }) ss w runs) i entry k leads in
      omega (arith, count, known)

  -- and ways pass no more routers than there are
  pub short_ways : IsNetwork n → HasShortWays w
  short_ways valid addr i ks known way = always_ways_end n ss w valid runs addr i ks known (way_moves w addr (i ∷ ks) way)
