-- At a quiet world each router has its best row.
use Rattle.std.proofs.Common.{refl, sym, ap, ◌∙◌, inl, inr, arith, ◌≡◌, ◌⊎◌, ℕ, ◌+◌, ◌<◌, ◌≤◌, true, List, [], map, length, Option, Some, None, is_some, slice_get, option_map, option_and_then, unwrap_or}
use Rattle.no_packet_loops.proofs.Common.{range_with_len, option_map_or, false≢true, length-map, Prefix, prefix_cmp, Machine, opening_machine, port_count, Local, Unreachable, End, A, B, Link, Router, World, Network, side, machine_of, neighbours, costs_of, opening_router_of, opening, Place, Port, entry_of, IsWalkHome, walk_cost as way_cost, is_quiet, None_not_Some, Topology, IsEdgeWalk as NetWalk, IsNetwork, history, LinkEnd, State, on_link, view, lay, walk_map, find as row_of}
use Rattle.no_packet_loops.specs.Packets.{published_entry}
use Rattle.no_packet_loops.proofs.{Wiring.IsWired, Wiring.wired, Wiring.few_routers, Places.laid, Places.spot, Places.topology, Opened.first_fd, Opened.opening_view, Publishing.control_row, Quiet.entry_local, Quiet.entry_lost, Runs.Reached, Runs.reached, WorldLaws.SameShape, WorldLaws.Runs-shape}
use Rattle.least_cost.specs.Quiet.{LeadsHome, Follows, IsRouted as IsNetRouted, IsOptimal, walk_end, edges_cost}
use Rattle.least_cost.proofs.AtQuiet.{optimal_at_quiet}
use Rattle.quiet_routes.specs.Routes.{HasRoute, IsUnheard, HasBestRow, QuietRoutes}
use Rattle.quiet_routes.proofs.{Worlds.CheapLink, Worlds.Good, Worlds.good, Homes.home_is, Homes.home_cost, Still.row_now, Still.quiet_now}
use Rattle.quiet_routes.proofs.Ways.{IsUp, place_for, to_walk, to_cost, from_walk, from_cost, from_chain}

module _ (n : Network) (V : IsNetwork n) (p : Prefix) (w : World) (rs : List Router) (R : Reached n (wired n V) p w rs) (G : Good p w) (quiet : is_quiet w ≡ true) (count : length w.attachments ≡ length w.routers) where
  -- the network is wired
  abbrev N : IsWired n
  N = wired n V

  -- the topology of the network
  abbrev t : Topology
  t = topology n N

  -- the view of the quiet world
  abbrev s : State
  s = view n p w R.published_fd

  -- a port that is there is one of a router of the network
  pub placed : (e : LinkEnd) → t.valid e ≡ true → e.router < n.routers
  placed e v = by_place (lay n e) refl v
    where
      by_place : (x : Option Place) → lay n e ≡ x → is_some x ≡ true → e.router < n.routers
      by_place None is h = absurd (false≢true h)
      by_place (Some x) is h = (laid n e x is).known

  -- the cost from each place has 16 bits
  pub costs_fit : (x : Option Place) → on_link (λ en k. (side en k).cost) 0 x w.links ≤ 65535
  costs_fit None = omega arith
  costs_fit (Some x) = by_link (slice_get w.links x.link) refl
    where
      by_end : (k : Link) (e : End) → CheapLink k → (side e k).cost ≤ 65535
      by_end k A c = c.0
      by_end k B c = c.1

      by_link : (k : Option Link) → slice_get w.links x.link ≡ k → option_map_or (λ y. (side x.end y).cost) k 0 ≤ 65535
      by_link None at = omega arith
      by_link (Some k) at = by_end k x.end (G.cheap x.link k at)

  -- the view has a least way, or none, at each router
  optimal : (i : ℕ) → i < n.routers → IsOptimal t n.routers s i
  optimal = optimal_at_quiet t (view n p (opening n) (first_fd n N p)) s (opening_view n N p) R.run n.routers (few_routers n V) placed (λ e v. costs_fit (lay n e))
      (λ i c lt is. (home_cost n N p w rs R G quiet count i c is).small) (quiet_now n N p w rs R G quiet)

  -- ---- rows

  -- router i has not heard of the prefix, or its published row is the entry of its machine
  data Shows (i : ℕ) : Type 0 where
    Silent : (s.machine i).successor ≡ None → IsUnheard w p i → Shows i
    Row : (ports : List Port) → published_entry w i p ≡ Some (entry_of ports (s.machine i)) → Shows i

  -- so it is at each router
  shows : (i : ℕ) → Shows i
  shows i = by_router (slice_get w.routers i) refl
    where
      by_row : (r : Router) → slice_get w.routers i ≡ Some r → (x : Option Machine) → row_of prefix_cmp p r.machines ≡ x → Shows i
      by_row r at None is =
          let machine : s.machine i ≡ opening_machine None (neighbours r.ports) =
          ap (λ y. option_map_or (λ (z : Router). machine_of z p) y (opening_machine None [])) at ∙ ap (λ y. unwrap_or y (opening_machine None (neighbours r.ports))) is in
          Silent (ap (λ (m : Machine). m.successor) machine) (record {
            no_machine = ap (option_and_then (λ (y : Router). row_of prefix_cmp p y.machines)) at ∙ is;
            not_published = ap (option_and_then (λ (y : Router). row_of prefix_cmp p (y.table).published)) at ∙ row_now n N p w rs R G quiet i r at ∙ ap (option_map (λ m. entry_of r.ports m)) is;
            not_chosen = ap (option_and_then (λ (y : Router). row_of prefix_cmp p (y.table).control)) at
                ∙ control_row p r (R.kept.routers_kept i r at).control_is
                ∙ ap (option_map (λ m. entry_of r.ports m)) is;
          })
      by_row r at (Some m) is =
          let machine : s.machine i ≡ m =
          ap (λ y. option_map_or (λ (z : Router). machine_of z p) y (opening_machine None [])) at ∙ ap (λ y. unwrap_or y (opening_machine None (neighbours r.ports))) is in
          Row r.ports (
          ap (option_and_then (λ (y : Router). row_of prefix_cmp p (y.table).published)) at
          ∙ row_now n N p w rs R G quiet i r at
          ∙ ap (option_map (λ x. entry_of r.ports x)) is
          ∙ ap (λ (x : Machine). Some (entry_of r.ports x)) (sym machine)
          )

      by_router : (x : Option Router) → slice_get w.routers i ≡ x → Shows i
      by_router None at = Silent (ap (λ y. (option_map_or (λ (z : Router). machine_of z p) y (opening_machine None [])).successor) at) (record {
        no_machine = ap (option_and_then (λ (y : Router). row_of prefix_cmp p y.machines)) at;
        not_published = ap (option_and_then (λ (y : Router). row_of prefix_cmp p (y.table).published)) at;
        not_chosen = ap (option_and_then (λ (y : Router). row_of prefix_cmp p (y.table).control)) at;
      })
      by_router (Some r) at = by_row r at (row_of prefix_cmp p r.machines) refl

  -- the row of a router whose successor is its attachment is Local
  local_row : (o : ℕ) → (s.machine o).successor ≡ Some (port_count (s.machine o)) → published_entry w o p ≡ Some Local
  local_row o h = by_shows (shows o)
    where
      by_shows : Shows o → published_entry w o p ≡ Some Local
      by_shows (Silent none u) = absurd (None_not_Some (sym none ∙ h))
      by_shows (Row ports row) = row ∙ ap Some (entry_local ports (s.machine o) h)

  -- ---- the two cases

  -- a walk of the world to an attached router is one of the view
  leads_home : (i : ℕ) (ps : List Place) (o cost : ℕ) → IsWalkHome w p i ps o cost → LeadsHome t s i (map (spot n) ps)
  leads_home i ps o cost h =
      let W = to_walk n N p w rs R i ps o h.walk in
      record { live = W.0; cost = h.attachment; home = ap (λ (j : ℕ). (s.machine j).attachment) W.1 ∙ home_is n N p w rs R G quiet count o ∙ h.attached }

  -- a router that has a least way in the view is routed in the world
  routed : (i : ℕ) → IsNetRouted t n.routers s i → HasRoute w p i
  unfolding leads_home
  routed i Q =
      let o : ℕ = walk_end t i Q.chain in
      let up : NetWalk t (IsUp n N p w rs R) i Q.chain = walk_map t (Follows s) (IsUp n N p w rs R) (λ e f. f.sends.linked) i Q.chain Q.follows in
      let cost : way_cost w (map (place_for n N p w rs R) Q.chain) ≡ edges_cost s Q.chain = from_cost n N p w rs R i Q.chain up in
      record {
        home = o;
        chain = map (place_for n N p w rs R) Q.chain;
        leads = from_chain n N p w rs R i Q.chain Q.follows (local_row o Q.reaches.chosen);
        least = record {
          walk = record {
            walk = from_walk n N p w rs R i Q.chain up;
            attachment = Q.cost;
            attached = sym (home_is n N p w rs R G quiet count o) ∙ Q.reaches.attached;
            cost_is = (let e = Q.cost_is in omega (arith, cost, e));
          };
          least = λ others end other_cost h. (
              let under : (s.machine i).rd ≤ edges_cost s (map (spot n) others) + h.attachment = Q.least_cost (map (spot n) others) (leads_home i others end other_cost h) in
              let same : edges_cost s (map (spot n) others) ≡ way_cost w others = to_cost n N p w rs R i others end h.walk in
              let all : way_cost w others + h.attachment ≡ other_cost = h.cost_is in
              omega (arith, under, same, all)
              );
        };
      }

  -- where no walk of the world leads to an attached router, none of the view does
  no_way : (i : ℕ) → ((ps : List Place) (o cost : ℕ) → IsWalkHome w p i ps o cost → ⊥) → (es : List LinkEnd) → LeadsHome t s i es → ⊥
  no_way i none es h =
      none (map (place_for n N p w rs R) es) (walk_end t i es) (way_cost w (map (place_for n N p w rs R) es) + h.cost) (record {
        walk = from_walk n N p w rs R i es h.live;
        attachment = h.cost;
        attached = sym (home_is n N p w rs R G quiet count (walk_end t i es)) ∙ h.home;
        cost_is = refl;
      })

  -- without a successor, the row is Unreachable or the prefix unheard
  lost : (i : ℕ) → (s.machine i).successor ≡ None → (published_entry w i p ≡ Some Unreachable) ⊎ IsUnheard w p i
  lost i gone = by_shows (shows i)
    where
      by_shows : Shows i → (published_entry w i p ≡ Some Unreachable) ⊎ IsUnheard w p i
      by_shows (Silent none u) = inr u
      by_shows (Row ports row) = inl (row ∙ ap Some (entry_lost ports (s.machine i) gone))

  -- each router of a quiet world has its best row
  pub best : (i : ℕ) → i < n.routers → HasBestRow w p i
  best i lt = record {
    connected = λ ps o cost h. routed i ((optimal i lt).connected (map (spot n) ps) (leads_home i ps o cost h));
    cut_off = λ none. lost i ((optimal i lt).disconnected (no_way i none)).no_successor;
  }

-- in every quiet world to which a run leads, each router has its best row for each prefix
pub quiet_routes : QuietRoutes
quiet_routes n ss w V r quiet p i lt = best n V p w (history n ss).published (reached n (wired n V) p ss w r) (good p n ss w V r) quiet count i lt
  where
    shape : SameShape (opening n) w
    shape = Runs-shape (opening n) ss w r

    count : length w.attachments ≡ length w.routers
    count = shape.attachments ∙ length-map (range_with_len 0 n.routers) (λ j. record { costs = costs_of n j; notices = [] }) ∙ sym (length-map (range_with_len 0 n.routers) (opening_router_of n)) ∙ sym shape.routers
