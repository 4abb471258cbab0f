-- In a quiet world every chain of next hops of equal cost is a least walk, and each feasible next hop leads nearer.
use Rattle.std.proofs.Common.{refl, sym, ap, subst, ◌∙◌, arith, ◌≡◌, ℕ, ◌+◌, ◌<◌, ◌≤◌, true, false, ◌&&◌, ◌==◌, if◌then◌else◌, List, [], ◌∷◌, map, length, Option, Some, None, is_some, slice_get, option_map, option_and_then, eq-eqb}
use Rattle.no_packet_loops.proofs.Common.{range_with_len, length-map, option_map_or, and_from, false≢true, infinity, NextHop, LinkEnd, Step, Runs, A, place_of, Prefix, Machine, opening_machine, Link, Side, Router, World, Network, other, side, attachment_at, machine_of, opening, opening_router_of, costs_of, Place, place_at, session_at, entry_leads, Entry, Via, IsWalk, walk_cost, is_quiet, Topology, IsNetwork, history, State, at_port, view, lay, is_up_at, IsWalkHome, reported_at}
use Rattle.no_packet_loops.proofs.{Wiring.IsWired, Wiring.wired, Wiring.few_routers, Places.topology, Places.laid, Places.spot_on, View.on_link-there, View.on_router-there, Kept.specified, Opened.first_fd, Opened.opening_view, Runs.Reached, Runs.reached, Runs.place_is, Walks.Leads, Walks.leads, WorldLaws.SameShape, WorldLaws.Runs-shape}
use Rattle.least_cost.specs.Quiet.{IsQuiet, IsRouted, Follows, walk_end}
use Rattle.least_cost.proofs.{Runs.kept_run, AtQuiet.successor_below, Replay.replay, Kept.Kept, Kept.pending, Kept.line, Kept.port_at}
use Rattle.loop_freedom.proofs.Walks.{walk_map}
use Rattle.quiet_routes.specs.Routes.{machine_at, HasBestRow}
use Rattle.quiet_routes.proofs.{Worlds.Good, Worlds.good, Homes.home_is, Homes.home_cost, Ways.IsUp, Ways.place_for, Ways.from_walk, Still.quiet_now, Routes.placed, Routes.costs_fit, Routes.quiet_routes}
use Rattle.many_ways.specs.{Network.FeasibleEdge, HopsAtQuiet.ComesNearer, Quiet.HopsAreGood, Quiet.EqualEdge, QuietWorlds.SendsEqually, QuietWorlds.IsEqualChain, QuietWorlds.EqualChainsAreLeast}
use Rattle.many_ways.proofs.{Feasible.FeasibleHop, Feasible.feasible_hop, AtQuiet.adds, AtQuiet.many_ways_at_quiet}

-- an entry leads across the link at its port, if that is up in the session of the entry
pub leads_over : (w : World) (i q : ℕ) (x : Place) (j : Link) → place_at w i q ≡ Some x → slice_get w.links x.link ≡ Some j → j.up ≡ true → entry_leads w i (Via q j.session) ≡ Some (side (other x.end) j).router
leads_over w i q x j is_place is_link up =
    ap (λ (o : Option Place). if option_map_or (λ (k : Link). k.up && (k.session == j.session)) (option_and_then (λ (y : Place). slice_get w.links y.link) o) false then option_map (λ (y : Side). y.router) (option_and_then (λ (y : Place). option_map (side (other y.end)) (slice_get w.links y.link)) o) else None) is_place
    ∙ ap (λ b. if b then option_map (λ (y : Side). y.router) (option_map (side (other x.end)) (slice_get w.links x.link)) else None) live
    ∙ ap (λ o. option_map (λ (y : Side). y.router) (option_map (side (other x.end)) o)) is_link
  where
    live : option_map_or (λ (k : Link). k.up && (k.session == j.session)) (slice_get w.links x.link) false ≡ true
    live = ap (λ o. option_map_or (λ (k : Link). k.up && (k.session == j.session)) o false) is_link ∙ and_from j.up (j.session == j.session) up (eq-eqb j.session j.session refl)

module _ (n : Network) (V : IsNetwork n) (p : Prefix) (w : World) (rs : List Router) (R : Reached n (wired n V) p w rs) (G : Good p w) (quiet : is_quiet w ≡ true) (count : length w.attachments ≡ length w.routers) where
  abbrev N : IsWired n
  N = wired n V

  abbrev t : Topology
  t = topology n N

  abbrev s : State
  s = view n p w R.published_fd

  -- the view is kept and quiet, its ports are those of its routers, and its costs are costs
  kept : Kept t s
  kept = kept_run t (view n p (opening n) (first_fd n N p)) s (opening_view n N p) R.run

  rests : IsQuiet t n.routers s
  rests = quiet_now n N p w rs R G quiet

  known : (e : LinkEnd) → t.valid e ≡ true → e.router < n.routers
  known = placed n V p w rs R G quiet count

  cheap : (e : LinkEnd) → t.valid e ≡ true → s.cost e ≤ 65535
  cheap e v = costs_fit n V p w rs R G quiet count (lay n e)

  cheap_home : (i c : ℕ) → i < n.routers → (s.machine i).attachment ≡ Some c → c ≤ 65535
  cheap_home i c lt is = (home_cost n N p w rs R G quiet count i c is).small

  -- so the feasible next hops of each router are good
  good_hops : (i : ℕ) → i < n.routers → HopsAreGood t n.routers s i
  good_hops = many_ways_at_quiet t (view n p (opening n) (first_fd n N p)) s (opening_view n N p) R.run n.routers (few_routers n V) known cheap cheap_home rests

  -- a router whose successor is a port that is up is within reach
  pub within_reach : (i q : ℕ) → is_up_at (s.machine i) q ≡ true → (s.machine i).successor ≡ Some q → (s.machine i).rd < infinity
  within_reach i q up chosen = successor_below t n.routers s kept rests (few_routers n V) known cheap cheap_home i q (known (at_port i q) (kept.up_valid (at_port i q) up)) chosen

  -- a feasible next hop leads to a router that is nearer, and routed
  module _ (i : ℕ) (r : Router) (at : slice_get w.routers i ≡ Some r) (h : NextHop) (W : FeasibleHop p r h) where
    abbrev e : LinkEnd
    e = at_port i h.port

    abbrev far_router : ℕ
    far_router = (t.far e).router

    machine_is : s.machine i ≡ machine_of r p
    machine_is = on_router-there (λ y. machine_of y p) (opening_machine None []) w.routers i r at

    port_up : is_up_at (s.machine i) h.port ≡ true
    port_up = ap (λ (m : Machine). is_up_at m h.port) machine_is ∙ W.up

    there : t.valid e ≡ true
    there = kept.up_valid e port_up

    -- nothing comes, so the router saw what its link is
    seen : pending (line s e) ≡ port_at s e
    seen = ap (λ x. replay x (port_at s e)) (rests.inbox_empty e there)

    edge : FeasibleEdge s e
    edge = record {
      linked = sym ((kept.lines e there).end_up) ∙ ap (λ x. x.up) seen ∙ port_up;
      port_up = port_up;
      present = sym (ap (λ x. x.session) seen) ∙ (kept.lines e there).end_session;
      below = (let a = ap (λ (m : Machine). reported_at m h.port) machine_is in let b = ap (λ (m : Machine). m.fd) machine_is in let c = W.low in omega (arith, a, b, c));
    }

    -- the link is there, and leads to that router
    link : IsWalk w i (place_for n N p w rs R e ∷ []) far_router
    link = from_walk n N p w rs R i (e ∷ []) (refl, there, edge.linked, tt)

    laid_is : lay n e ≡ Some (place_for n N p w rs R e)
    laid_is = by_place (lay n e) there
      where
        by_place : (x : Option Place) → is_some x ≡ true → x ≡ Some (option_map_or (λ y. y) x (place_of 0 A))
        by_place None g = absurd (false≢true g)
        by_place (Some x) g = refl

    leads_on : entry_leads w i (Via h.port h.session) ≡ Some far_router
    leads_on =
        let session : h.session ≡ (link.0).session = W.session_is ∙ sym (on_router-there (λ y. session_at y.ports h.port) 0 w.routers i r at) ∙ edge.present ∙ on_link-there (λ en y. y.session) 0 w.links (lay n e) (place_for n N p w rs R e) link.0 laid_is link.1 in
        ap (λ (m : ℕ). entry_leads w i (Via h.port m)) session
        ∙ leads_over w i h.port (place_for n N p w rs R e) link.0 (place_is n p w R.kept i h.port ∙ laid_is) link.1 link.2
        ∙ ap (λ (k : ℕ). Some k) link.4

    pub comes_nearer : ((k : ℕ) → k < n.routers → HasBestRow w p k) → ComesNearer w p i h
    comes_nearer best =
        let G' = (good_hops i (known e there)).no_dead_end e refl there edge in
        let Q : IsRouted t n.routers s far_router = G'.1 in
        record {
          to = far_router;
          leads = leads_on;
          nearer = G'.0;
          routed = (best far_router (known (t.far e) (t.far_valid e there))).connected (map (place_for n N p w rs R) Q.chain) (walk_end t far_router Q.chain) (walk_cost w (map (place_for n N p w rs R) Q.chain) + Q.cost) (record {
            walk = from_walk n N p w rs R far_router Q.chain (walk_map t (Follows s) (IsUp n N p w rs R) (λ d f. f.sends.linked) far_router Q.chain Q.follows);
            attachment = Q.cost;
            attached = sym (home_is n N p w rs R G quiet count (walk_end t far_router Q.chain)) ∙ Q.reaches.attached;
            cost_is = refl;
          });
        }

  -- what one next hop of equal cost adds
  record Adds (i : ℕ) (x : Place) (link : Link) : Type 0 where
    near : (side x.end link).router ≡ i
    rd : (machine_at w i p).rd ≡ (side x.end link).cost + (machine_at w (side (other x.end) link).router p).rd

  hop_adds : (i : ℕ) (x : Place) (S : SendsEqually w p i x) → Adds i x S.link
  hop_adds i x S = record { near = near; rd = sums }
    where
      laid_is : lay n (at_port i S.port) ≡ Some x
      laid_is = sym (place_is n p w R.kept i S.port) ∙ S.is_place

      near : (side x.end S.link).router ≡ i
      near =
          let L = laid n (at_port i S.port) x laid_is in
          let K = specified n p w R.kept x.link S.link S.is_link in
          K.router_is x.end ∙ sym (ap (λ e. e.router) (sym L.spot_is ∙ ap (λ o. option_map_or (spot_on n x) o (at_port 0 0)) K.is_link))

      L : Leads n N p w rs R i (Via S.port (S.link).session) (side (other x.end) S.link).router
      L = leads n N p w rs R i (Via S.port (S.link).session) (side (other x.end) S.link).router (leads_over w i S.port x S.link S.is_place S.is_link S.is_up)

      port_is : (a b c d : ℕ) → ◌≡◌ {A = Entry} (Via a b) (Via c d) → c ≡ a
      port_is a b c d e = cc

      port : L.port ≡ S.port
      port = port_is S.port (S.link).session L.port L.session L.is_via

      valid : t.valid (at_port i S.port) ≡ true
      valid = ap is_some laid_is

      up : s.up (at_port i S.port) ≡ true
      up = on_link-there (λ en y. y.up) false w.links (lay n (at_port i S.port)) x S.link laid_is S.is_link ∙ S.is_up

      far : (t.far (at_port i S.port)).router ≡ (side (other x.end) S.link).router
      far = subst (λ (q : ℕ). (t.far (at_port i q)).router ≡ (side (other x.end) S.link).router) port L.far_router

      machine : s.machine i ≡ machine_of S.router p
      machine = on_router-there (λ y. machine_of y p) (opening_machine None []) w.routers i S.router S.is_router

      Y : FeasibleHop p S.router (record { port = S.port; session = (S.link).session })
      Y = feasible_hop p S.router (record { port = S.port; session = (S.link).session }) S.feasible

      E : EqualEdge s (at_port i S.port)
      E = record {
        feasible = record {
          linked = up;
          port_up = ap (λ (m : Machine). is_up_at m S.port) machine ∙ Y.up;
          present = on_router-there (λ y. session_at y.ports S.port) 0 w.routers i S.router S.is_router ∙ sym Y.session_is ∙ sym (on_link-there (λ en y. y.session) 0 w.links (lay n (at_port i S.port)) x S.link laid_is S.is_link);
          below = low;
        };
        neighbour = S.neighbour;
        at = ap (λ (m : Machine). slice_get m.ports S.port) machine ∙ S.at;
        equal = S.equal ∙ sym (ap (λ (m : Machine). m.rd) machine);
        reached = (let a = ap (λ (m : Machine). m.rd) machine in let b = S.reached in omega (arith, a, b));
      }
        where
          low : reported_at (s.machine i) S.port < (s.machine i).fd
          low = (let a = ap (λ (m : Machine). reported_at m S.port) machine in let b = ap (λ (m : Machine). m.fd) machine in let c = Y.low in omega (arith, a, b, c))

      sums : (machine_at w i p).rd ≡ (side x.end S.link).cost + (machine_at w (side (other x.end) S.link).router p).rd
      sums =
          let a = adds t n.routers s kept rests (few_routers n V) known cheap cheap_home (at_port i S.port) valid E in
          let c : s.cost (at_port i S.port) ≡ (side x.end S.link).cost = on_link-there (λ en y. (side en y).cost) 0 w.links (lay n (at_port i S.port)) x S.link laid_is S.is_link in
          let f = ap (λ (j : ℕ). (s.machine j).rd) far in
          omega (arith, a, c, f)

  -- a chain of such next hops is a walk
  walk : (i : ℕ) (xs : List Place) (o : ℕ) → IsEqualChain w p i xs o → IsWalk w i xs o
  walk i [] o c = c.0
  walk i (x ∷ xs) o c = ((c.0).link, (c.0).is_link, (c.0).is_up, (hop_adds i x c.0).near, walk (side (other x.end) (c.0).link).router xs o c.1)

  -- whose costs add up to the distance
  cost : (i : ℕ) (xs : List Place) (o : ℕ) → IsEqualChain w p i xs o → walk_cost w xs + (machine_at w o p).rd ≡ (machine_at w i p).rd
  cost i [] o c = (let e = ap (λ (j : ℕ). (machine_at w j p).rd) c.0 in omega (arith, e))
  cost i (x ∷ xs) o c =
      let rest = cost (side (other x.end) (c.0).link).router xs o c.1 in
      let one = (hop_adds i x c.0).rd in
      let at : option_map_or (λ (l : Link). (side x.end l).cost) (slice_get w.links x.link) 0 ≡ (side x.end (c.0).link).cost = ap (λ q. option_map_or (λ (l : Link). (side x.end l).cost) q 0) (c.0).is_link in
      omega (arith, rest, one, at)

  -- and which ends at an attachment
  pub home : (i : ℕ) (xs : List Place) (o : ℕ) → IsEqualChain w p i xs o → IsWalkHome w p i xs o (machine_at w i p).rd
  home i xs o c = record { walk = walk i xs o c; attachment = (machine_at w o p).rd; attached = last i xs o c; cost_is = cost i xs o c }
    where
      last : (j : ℕ) (ys : List Place) (e : ℕ) → IsEqualChain w p j ys e → attachment_at w e p ≡ Some (machine_at w e p).rd
      last j [] e d = d.1
      last j (y ∷ ys) e d = last (side (other y.end) (d.0).link).router ys e d.1

-- a world of a run has an attachment of each router
pub attachments_count : (n : Network) (ss : List Step) (w : World) → Runs (opening n) ss w → length w.attachments ≡ length w.routers
attachments_count n ss w r = shape.attachments ∙ length-map (range_with_len 0 n.routers) (λ j. record { costs = costs_of n j; notices = [] }) ∙ sym (length-map (range_with_len 0 n.routers) (opening_router_of n)) ∙ sym shape.routers
  where
    shape : SameShape (opening n) w
    shape = Runs-shape (opening n) ss w r

-- in every quiet world such a chain is a least walk
pub equal_chains_are_least : EqualChainsAreLeast
equal_chains_are_least n ss w V r quiet p i xs o lt c =
    let H = home n V p w (history n ss).published (reached n (wired n V) p ss w r) (good p n ss w V r) quiet (attachments_count n ss w r) i xs o c in
    record { walk = H; least = (((quiet_routes n ss w V r quiet p i lt).connected xs o (machine_at w i p).rd H).least).least }
