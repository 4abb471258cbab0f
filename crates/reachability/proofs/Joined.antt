-- In every run the parts of the world fit together.
use Rattle.std.proofs.Common.{sym, ap, subst, ◌∙◌, arith, ◌≡◌, ℕ, ◌<◌, List, length, Some, slice_get, option_and_then}
use Rattle.no_packet_loops.proofs.Common.{length-map, length-map-range_with_len, slice_get_within, Place, Prefix, End, A, B, Link, LinkSpec, Network, World, place_at, side, router_end, opening, opening_link, opening_router_of, IsNetwork, Runs, at_port, Step}
use Rattle.no_packet_loops.proofs.{Kept.specified, Places.laid, Runs.reached, Wiring.IsWiredLink, Wiring.few_routers, Wiring.wired, WorldLaws.Runs-shape}
use Rattle.world.proofs.Degrees.{few_links}
use Rattle.reachability.specs.Ways.{IsJoined}

module _ (n : Network) (valid : IsNetwork n) (ss : List Step) (w : World) (runs : Runs (opening n) ss w) where
  -- as many routers, links and routers with attachments as the network has
  routers_same : length w.routers ≡ n.routers
  routers_same = (Runs-shape (opening n) ss w runs).routers ∙ length-map-range_with_len (opening_router_of n) 0 n.routers

  links_same : length w.links ≡ length n.links
  links_same = (Runs-shape (opening n) ss w runs).links ∙ length-map n.links opening_link

  attachments_same : length w.attachments ≡ n.routers
  attachments_same = (Runs-shape (opening n) ss w runs).attachments ∙ length-map-range_with_len _ 0 n.routers

  -- the routers of a link are those of the network's link
  any_prefix : Prefix
  any_prefix = record { addr = 0; len = 0 }

  ends_known : (l : ℕ) (k : Link) (e : End) → slice_get w.links l ≡ Some k → (side e k).router < length w.routers
  ends_known l k e at =
      let R = reached n (wired n valid) any_prefix ss w runs in
      let S = specified n any_prefix w R.kept l k at in
      let W : IsWiredLink n.routers S.spec = (wired n valid).are_links l S.spec S.is_link in
      subst (λ (i : ℕ). i < length w.routers) (sym (S.router_is e)) (by_end S.spec W e)
    where
      by_end : (s : LinkSpec) → IsWiredLink n.routers s → (d : End) → router_end d s < length w.routers
      by_end s W A = (let known = W.a_known in let same = routers_same in omega (arith, known, same))
      by_end s W B = (let known = W.b_known in let same = routers_same in omega (arith, known, same))

  ports_known : (i q : ℕ) (x : Place) → place_at w i q ≡ Some x → x.link < length w.links
  ports_known i q x at =
      let places = (Runs-shape (opening n) ss w runs).places in
      let L = laid n (at_port i q) x (ap (λ (ps : List (List Place)). option_and_then (λ (xs : List Place). slice_get xs q) (slice_get ps i)) (sym places) ∙ at) in
      let within : x.link < length n.links = slice_get_within n.links x.link L.spec L.is_link in
      let same = links_same in
      omega (arith, same, within)

  pub joined : IsJoined w
  joined = record {
    few_routers = (let few = few_routers n valid in let same = routers_same in omega (arith, few, same));
    few_links = (let few = few_links n valid.no_fault in let same = links_same in omega (arith, few, same));
    ends = ends_known;
    ports = ports_known;
    attachments = attachments_same ∙ sym routers_same;
  }
