-- Walks of the world are walks of the view, and the other way round.
use Rattle.std.proofs.Common.{refl, sym, ap, subst, ◌∙◌, ◌≡◌, ℕ, ◌+◌, true, false, List, [], ◌∷◌, map, Option, Some, None, is_some, slice_get, option_and_then}
use Rattle.no_packet_loops.proofs.Common.{option_map_or, false≢true, Prefix, prefix_cmp, Entry, Local, Via, Unreachable, A, Link, Router, World, Network, other, side, Place, IsWalk as IsWay, walk_cost as way_cost, Some_injective, None_not_Some, Topology, IsEdgeWalk, router_end, place_of, LinkEnd, State, NextHop, at_port, next_hop, next_hop_at, on_link, view, lay, find as row_of}
use Rattle.no_packet_loops.specs.{Packets.published_entry, LinkEnds.across}
use Rattle.no_packet_loops.proofs.{Wiring.IsWired, Kept.specified, Kept.linked, Kept.far_is, View.on_link-there, Runs.Reached, Runs.place_is}
use Rattle.no_packet_loops.proofs.Places.{laid, lay-spot, far, spot, spot_on, topology}
use Rattle.least_cost.specs.Quiet.{Follows, walk_end, edges_cost}
use Rattle.quiet_routes.specs.Routes.{SendsBy, IsChain}

module _ (n : Network) (N : IsWired n) (p : Prefix) (w : World) (rs : List Router) (R : Reached n N p w rs) where
  -- the topology of the network
  abbrev t : Topology
  t = topology n N

  -- the view of the world
  abbrev s : State
  s = view n p w R.published_fd

  -- the link at port e is up
  abbrev pub IsUp : LinkEnd → Type 0
  IsUp e = s.up e ≡ true

  -- ---- from the world

  -- the port of place x lies there, and the routers at it and across are those of the link l
  record OfPlace (x : Place) (l : Link) : Type 0 where
    laid_at : lay n (spot n x) ≡ Some x
    near : (spot n x).router ≡ (side x.end l).router
    across_from : (far n (spot n x)).router ≡ (side (other x.end) l).router

  -- so it is for the place of each link that is there
  of_place : (x : Place) (l : Link) → slice_get w.links x.link ≡ Some l → OfPlace x l
  of_place x l at =
      let S = specified n p w R.kept x.link l at in
      let is : lay n (spot n x) ≡ Some x = lay-spot n N x S.spec S.is_link in
      record {
        laid_at = is;
        near = ap (λ o. (option_map_or (spot_on n x) o (at_port 0 0)).router) S.is_link ∙ sym (S.router_is x.end);
        across_from = ap (λ (e : LinkEnd). e.router) (far_is n N (spot n x) x is ∙ ap (λ o. option_map_or (spot_on n (across x)) o (at_port 0 0)) S.is_link) ∙ sym (S.router_is (other x.end));
      }

  -- a walk of the world is one of the view, to the same router
  pub to_walk : (i : ℕ) (ps : List Place) (o : ℕ) → IsWay w i ps o → IsEdgeWalk t IsUp i (map (spot n) ps) × (walk_end t i (map (spot n) ps) ≡ o)
  to_walk i [] o h = (tt, h)
  to_walk i (x ∷ xs) o (l, at, up, from, rest) =
      let P = of_place x l at in
      let W = to_walk (side (other x.end) l).router xs o rest in (
        (
          P.near ∙ from,
          ap is_some P.laid_at,
          on_link-there (λ en k. k.up) false w.links (lay n (spot n x)) x l P.laid_at at ∙ up,
          subst (λ (j : ℕ). IsEdgeWalk t IsUp j (map (spot n) xs)) (sym P.across_from) W.0,
        ),
        ap (λ (j : ℕ). walk_end t j (map (spot n) xs)) P.across_from ∙ W.1,
      )

  -- a walk of the world costs as much in the view
  pub to_cost : (i : ℕ) (ps : List Place) (o : ℕ) → IsWay w i ps o → edges_cost s (map (spot n) ps) ≡ way_cost w ps
  to_cost i [] o h = refl
  to_cost i (x ∷ xs) o (l, at, up, from, rest) =
      let cost : s.cost (spot n x) ≡ option_map_or (λ k. (side x.end k).cost) (slice_get w.links x.link) 0 = ap (λ y. on_link (λ en k. (side en k).cost) 0 y w.links) (of_place x l at).laid_at in
      let others = to_cost (side (other x.end) l).router xs o rest in
      λ z. cost z + others z

  -- ---- to the world

  -- the place at which a port lies; any place where there is no such port
  abbrev pub place_for : LinkEnd → Place
  place_for e = option_map_or (λ x. x) (lay n e) (place_of 0 A)

  -- a port that is there lies at the place that stands for it
  laid_for : (o : Option Place) → is_some o ≡ true → o ≡ Some (option_map_or (λ x. x) o (place_of 0 A))
  laid_for None h = absurd (false≢true h)
  laid_for (Some x) h = refl

  -- port e lies at its place on a link that is there, whose routers are those of e and of the port across
  record OfSpot (e : LinkEnd) : Type 0 where
    laid_at : lay n e ≡ Some (place_for e)
    link : Link
    is_link : slice_get w.links (place_for e).link ≡ Some link
    near : (side (place_for e).end link).router ≡ e.router
    across_from : (far n e).router ≡ (side (other (place_for e).end) link).router

  -- so it is for each port that is there
  of_spot : (e : LinkEnd) → is_some (lay n e) ≡ true → OfSpot e
  of_spot e v =
      let x : Place = place_for e in
      let is : lay n e ≡ Some x = laid_for (lay n e) v in
      let L = laid n e x is in
      let k = linked n p w R.kept x.link L.spec L.is_link in
      let S = specified n p w R.kept x.link k.0 k.1 in
      let same : S.spec ≡ L.spec = Some_injective (sym S.is_link ∙ L.is_link) in
      record {
        laid_at = is;
        link = k.0;
        is_link = k.1;
        near = S.router_is x.end ∙ ap (router_end x.end) same ∙ L.router_is;
        across_from = ap (λ (d : LinkEnd). d.router) (far_is n N e x is ∙ ap (λ o. option_map_or (spot_on n (across x)) o (at_port 0 0)) S.is_link) ∙ sym (S.router_is (other x.end));
      }

  -- a walk of the view is one of the world, to the same router
  pub from_walk : (i : ℕ) (es : List LinkEnd) → IsEdgeWalk t IsUp i es → IsWay w i (map place_for es) (walk_end t i es)
  from_walk i [] h = refl
  from_walk i (e ∷ es) h =
      let P = of_spot e h.1 in (
        P.link,
        P.is_link,
        sym (on_link-there (λ en k. k.up) false w.links (lay n e) (place_for e) P.link P.laid_at P.is_link) ∙ h.2,
        P.near ∙ h.0,
        subst (λ (j : ℕ). IsWay w j (map place_for es) (walk_end t (far n e).router es)) P.across_from (from_walk (far n e).router es h.3),
      )

  -- a walk of the view costs as much in the world
  pub from_cost : (i : ℕ) (es : List LinkEnd) → IsEdgeWalk t IsUp i es → way_cost w (map place_for es) ≡ edges_cost s es
  from_cost i [] h = refl
  from_cost i (e ∷ es) h =
      let cost : s.cost e ≡ option_map_or (λ k. (side (place_for e).end k).cost) (slice_get w.links (place_for e).link) 0 = ap (λ y. on_link (λ en k. (side en k).cost) 0 y w.links) (of_spot e h.1).laid_at in
      let others = from_cost (far n e).router es h.3 in
      λ z. sym cost z + others z

  -- ---- rows

  -- a router of which the view shows a next hop published the Via row
  published_via : (i q session : ℕ) → s.published i ≡ Some (record { port = q; session = session }) → published_entry w i p ≡ Some (Via q session)
  published_via i q session h = by_router (slice_get w.routers i) h
    where
      by_row : (o : Option Entry) → option_and_then next_hop o ≡ Some (record { port = q; session = session }) → o ≡ Some (Via q session)
      by_row None e = absurd (None_not_Some e)
      by_row (Some Local) e = absurd (None_not_Some e)
      by_row (Some (Via a b)) e = ap (λ (o : NextHop). Some (Via o.port o.session)) (Some_injective e)
      by_row (Some Unreachable) e = absurd (None_not_Some e)

      by_router : (o : Option Router) → option_map_or (next_hop_at p) o None ≡ Some (record { port = q; session = session }) → option_and_then (λ (r : Router). row_of prefix_cmp p (r.table).published) o ≡ Some (Via q session)
      by_router None e = absurd (None_not_Some e)
      by_router (Some r) e = by_row (row_of prefix_cmp p (r.table).published) e

  -- a walk of the view along published successors to a Local row is a chain of rows of the world
  pub from_chain : (i : ℕ) (es : List LinkEnd) → IsEdgeWalk t (Follows s) i es → published_entry w (walk_end t i es) p ≡ Some Local → IsChain w p i (map place_for es) (walk_end t i es)
  from_chain i [] h local = (refl, local)
  from_chain i (e ∷ es) h local =
      let P = of_spot e h.1 in
      let x : Place = place_for e in
      let session : s.session e ≡ (P.link).session = on_link-there (λ en k. k.session) 0 w.links (lay n e) x P.link P.laid_at P.is_link in
      let sends : SendsBy w p e.router x = record {
        port = e.port;
        link = P.link;
        is_place = place_is n p w R.kept e.router e.port ∙ P.laid_at;
        is_link = P.is_link;
        is_up = sym (on_link-there (λ en k. k.up) false w.links (lay n e) x P.link P.laid_at P.is_link) ∙ h.2.sends.linked;
        row = published_via e.router e.port (P.link).session (h.2.sends.chosen ∙ ap (λ (m : ℕ). Some (record { port = e.port; session = m })) session);
      } in
      let on : IsChain w p (side (other x.end) P.link).router (map place_for es) (walk_end t (far n e).router es) =
      subst (λ (j : ℕ). IsChain w p j (map place_for es) (walk_end t (far n e).router es)) P.across_from (from_chain (far n e).router es h.3 local) in
      subst (λ (j : ℕ). IsChain w p j (map place_for (e ∷ es)) (walk_end t (far n e).router es)) h.0 (sends, on)
