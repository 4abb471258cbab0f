-- Ways of packets are walks of the view, so they meet no router twice; along rows the feasible distances fall.
use Rattle.std.proofs.Common.{refl, sym, ap, subst, ◌∙◌, inl, inr, arith, ◌<◌, ◌≡◌, ◌⊎◌, ℕ, Bool, true, false, cond, ◌&&◌, ◌==◌, nat_lt, if◌then◌else◌, List, [], ◌∷◌, Option, Some, None, is_some, slice_get, option_map, option_and_then, eqb-true, eq-eqb}
use Rattle.no_packet_loops.proofs.Common.{⊤, option_map_or, and_parts, false≢true, and_from, Prefix, prefix_cmp, covers, longer_row, longest_match, Machine, opening_machine, port_successor, is_port, port_successor_from, Entry, Via, Link, Side, Router, World, Network, other, side, machine_of, opening, Place, session_at, entry_leads, IsForwarded, IsPacketWalk, Some_injective, None_not_Some, is_up_at, machine_laws, Topology, PublishedEdge, ControlEdge, IsEdgeWalk, met, meets_twice, next_hop_of, always_mixed, router_end, history, LinkEnd, State, NextHop, at_port, next_hop, next_hop_at, view, lay, fd_in, is_next_hop, is_current, find as row_of, is_sorted, below_all}
use Rattle.no_packet_loops.specs.Packets.{HoldsInEveryWorld, NoPacketLoops, NoMixtureLoops, IsForwardedBy, IsMixtureWalk, published_entry, control_entry, DistancesAlwaysFall}
use Rattle.no_packet_loops.proofs.{Wiring.IsWired, Wiring.wired, View.on_link-there, View.on_router-there, Machines.prefix_itself, Kept.specified, Kept.far_is, Publishing.control_hop, Publishing.control_sorted, Publishing.hop_chosen, Quiet.found_later, Opened.first_fd, Opened.opening_view}
use Rattle.no_packet_loops.specs.LinkEnds.{across}
use Rattle.no_packet_loops.proofs.Places.{laid, far, far_laid, spot_on, topology}
use Rattle.no_packet_loops.proofs.Runs.{Reached, reached, place_is, fd_is, history_world}

-- ---- routers that forward by what they published, or by what they chose since, hop by hop

-- the published or the chosen row of this prefix at router i leads to router k
pub record MayGo (w : World) (p : Prefix) (i k : ℕ) : Type 0 where
  pub entry : Entry
  pub is_row : (published_entry w i p ≡ Some entry) ⊎ (control_entry w i p ≡ Some entry)
  pub leads : entry_leads w i entry ≡ Some k

-- a list of routers each of which may send a packet of this prefix to the next
abbrev pub IsMixedWalk : World → Prefix → List ℕ → Type 0
IsMixedWalk w p (i ∷ k ∷ ks) = MayGo w p i k × IsMixedWalk w p (k ∷ ks)
IsMixedWalk w p _ = ⊤

-- ---- the longest match is the row of its prefix

module _ {X : Type 0} (addr : ℕ) (p : Prefix) (x : X) where
  -- a first row of the prefix is the row that is found
  row_first : (r : Prefix × X) (rs : List (Prefix × X)) → r ≡ (p, x) → row_of prefix_cmp p (r ∷ rs) ≡ Some x
  row_first r rs e =
      let own : row_of prefix_cmp r.0 (r ∷ rs) ≡ Some r.1 = ap (λ b. cond b (Some r.1) (row_of prefix_cmp r.0 rs)) (prefix_itself r.0) in
      subst (λ (y : Prefix × X). row_of prefix_cmp y.0 (r ∷ rs) ≡ Some y.1) e own

  -- the longest match in sorted rows is the row of its prefix
  pub match_is_row : (rows : List (Prefix × X)) → is_sorted prefix_cmp rows ≡ true → longest_match addr rows ≡ Some (p, x) → row_of prefix_cmp p rows ≡ Some x
  match_is_row [] sorted e = absurd (None_not_Some e)
  match_is_row (r ∷ rs) sorted e = by_cover (covers r.0 addr) (λ f. found_later r rs parts.0 p x (match_is_row rs parts.1 f)) e
    where
      parts : (below_all prefix_cmp r.0 rs ≡ true) × (is_sorted prefix_cmp rs ≡ true)
      parts = and_parts (below_all prefix_cmp r.0 rs) (is_sorted prefix_cmp rs) sorted

      by_length : (s : Prefix × X) (b : Bool) → longest_match addr rs ≡ Some s → (longest_match addr rs ≡ Some (p, x) → row_of prefix_cmp p (r ∷ rs) ≡ Some x) → (if b then Some s else Some r) ≡ Some (p, x) → row_of prefix_cmp p (r ∷ rs) ≡ Some x
      by_length s true is deeper f = deeper (is ∙ f)
      by_length s false is deeper f = row_first r rs (Some_injective f)

      by_rest : (o : Option (Prefix × X)) → longest_match addr rs ≡ o → (longest_match addr rs ≡ Some (p, x) → row_of prefix_cmp p (r ∷ rs) ≡ Some x) → longer_row r o ≡ Some (p, x) → row_of prefix_cmp p (r ∷ rs) ≡ Some x
      by_rest None is deeper f = row_first r rs (Some_injective f)
      by_rest (Some s) is deeper f = by_length s (nat_lt (r.0).len (s.0).len) is deeper f

      by_cover : (b : Bool) → (longest_match addr rs ≡ Some (p, x) → row_of prefix_cmp p (r ∷ rs) ≡ Some x) → (if b then longer_row r (longest_match addr rs) else longest_match addr rs) ≡ Some (p, x) → row_of prefix_cmp p (r ∷ rs) ≡ Some x
      by_cover true deeper f = by_rest (longest_match addr rs) refl deeper f
      by_cover false deeper f = deeper f

module _ (n : Network) (N : IsWired n) (p : Prefix) (w : World) (rs : List Router) (R : Reached n N p w rs) where
  -- the topology of the network
  abbrev t : Topology
  t = topology n N

  -- the view of the world
  abbrev s : State
  s = view n p w R.published_fd

  -- port e is published or chosen, over a link that is up in its present session
  abbrev edge : LinkEnd → Type 0
  edge e = PublishedEdge s e ⊎ ControlEdge s e

  -- ---- where an entry leads

  -- the entry of router i is Via a port, over a link that is up in the session of the entry, to router k
  pub record Leads (i : ℕ) (entry : Entry) (k : ℕ) : Type 0 where
    pub port : ℕ
    pub session : ℕ
    pub is_via : entry ≡ Via port session
    pub valid : is_some (lay n (at_port i port)) ≡ true
    pub up : s.up (at_port i port) ≡ true
    pub present : s.session (at_port i port) ≡ session
    pub far_router : (far n (at_port i port)).router ≡ k

  -- an entry that leads to router k is such an entry
  pub leads : (i : ℕ) (entry : Entry) (k : ℕ) → entry_leads w i entry ≡ Some k → Leads i entry k
  leads i (Via q session) k h = by_place (lay n (at_port i q)) refl
      (subst (λ (o : Option Place). (if option_map_or (λ (j : Link). j.up && (j.session == session)) (option_and_then (λ (x : Place). slice_get w.links x.link) o) false then option_map (λ (y : Side). y.router) (option_and_then (λ (x : Place). option_map (side (other x.end)) (slice_get w.links x.link)) o) else None) ≡ Some k) (place_is n p w R.kept i q) h)
    where
      by_live : (x : Place) → lay n (at_port i q) ≡ Some x → (j : Link) → slice_get w.links x.link ≡ Some j → (b : Bool) → (j.up && (j.session == session)) ≡ b → (if b then Some (side (other x.end) j).router else None) ≡ Some k → Leads i (Via q session) k
      by_live x is j at false live g = absurd (None_not_Some g)
      by_live x is j at true live g =
          let both = and_parts j.up (j.session == session) live in
          let L = laid n (at_port i q) x is in
          let S = specified n p w R.kept x.link j at in
          let router : (far n (at_port i q)).router ≡ router_end (other x.end) S.spec =
          ap (λ (e : LinkEnd). e.router) (far_is n N (at_port i q) x is ∙ ap (λ o. option_map_or (spot_on n (across x)) o (at_port 0 0)) S.is_link) in
          record {
            port = q;
            session = session;
            is_via = refl;
            valid = ap is_some is;
            up = on_link-there (λ en y. y.up) false w.links (lay n (at_port i q)) x j is at ∙ both.0;
            present = on_link-there (λ en y. y.session) 0 w.links (lay n (at_port i q)) x j is at ∙ eqb-true j.session session both.1;
            far_router = router ∙ sym (S.router_is (other x.end)) ∙ Some_injective g;
          }

      by_link : (x : Place) → lay n (at_port i q) ≡ Some x → (o : Option Link) → slice_get w.links x.link ≡ o
          → (if option_map_or (λ (j : Link). j.up && (j.session == session)) o false then option_map (λ (y : Side). y.router) (option_map (side (other x.end)) o) else None) ≡ Some k → Leads i (Via q session) k
      by_link x is None at g = absurd (None_not_Some g)
      by_link x is (Some j) at g = by_live x is j at (j.up && (j.session == session)) refl g

      by_place : (o : Option Place) → lay n (at_port i q) ≡ o
          → (if option_map_or (λ (j : Link). j.up && (j.session == session)) (option_and_then (λ (x : Place). slice_get w.links x.link) o) false then option_map (λ (y : Side). y.router) (option_and_then (λ (x : Place). option_map (side (other x.end)) (slice_get w.links x.link)) o) else None) ≡ Some k → Leads i (Via q session) k
      by_place None is g = absurd (None_not_Some g)
      by_place (Some x) is g = by_link x is (slice_get w.links x.link) refl g
  leads i _ k h = absurd (None_not_Some h)

  -- an entry leads to a router of the network
  pub leads_known : (i : ℕ) (entry : Entry) (k : ℕ) → entry_leads w i entry ≡ Some k → k < n.routers
  leads_known i entry k h = let L = leads i entry k h in by_place L (lay n (at_port i L.port)) refl L.valid
    where
      by_place : (L : Leads i entry k) → (o : Option Place) → lay n (at_port i L.port) ≡ o → is_some o ≡ true → k < n.routers
      by_place L None is v = absurd (false≢true v)
      by_place L (Some x) is v = subst (λ (j : ℕ). j < n.routers) L.far_router (laid n (far n (at_port i L.port)) (across x) (far_laid n N (at_port i L.port) x is)).known

  -- ---- edges

  -- the view shows a published Via row as the next hop of its router
  published_chosen : (i q session : ℕ) → published_entry w i p ≡ Some (Via q session) → s.published i ≡ Some (record { port = q; session = session })
  published_chosen i q session h = by_router (slice_get w.routers i) h
    where
      by_router : (o : Option Router) → option_and_then (λ (r : Router). row_of prefix_cmp p (r.table).published) o ≡ Some (Via q session) → option_map_or (next_hop_at p) o None ≡ Some (record { port = q; session = session })
      by_router None g = absurd (None_not_Some g)
      by_router (Some r) g = ap (option_and_then next_hop) g

  -- the machine of router i has port q as its successor, and the router saw this session there
  record Chosen (i q session : ℕ) : Type 0 where
    successor : (s.machine i).successor ≡ Some q
    seen : s.seen (at_port i q) ≡ session

  -- the successor of a router that has chosen a Via row is its port, in its session
  control_chosen : (i q session : ℕ) → control_entry w i p ≡ Some (Via q session) → Chosen i q session
  control_chosen i q session h = by_router (slice_get w.routers i) refl h
    where
      by_router : (o : Option Router) → slice_get w.routers i ≡ o → option_and_then (λ (r : Router). row_of prefix_cmp p (r.table).control) o ≡ Some (Via q session) → Chosen i q session
      by_router None at g = absurd (None_not_Some g)
      by_router (Some r) at g =
          let machine_is : s.machine i ≡ machine_of r p = on_router-there (λ y. machine_of y p) (opening_machine None []) w.routers i r at in
          let H = hop_chosen (s.machine i) (λ j. s.seen (at_port i j)) q session
          (ap (λ (m : Machine). next_hop_of (λ j. s.seen (at_port i j)) (port_successor m)) machine_is
          ∙ sym (control_hop p r (λ j. s.seen (at_port i j)) (R.kept.routers_kept i r at).control_is (λ j. on_router-there (λ y. session_at y.ports j) 0 w.routers i r at))
          ∙ ap (option_and_then next_hop) g) in
          record { successor = port_successor_from (s.machine i) q H.0; seen = H.1 }

  -- an edge of the view leads from router i to router k
  record Hop (i k : ℕ) : Type 0 where
    spot_at : LinkEnd
    from : spot_at.router ≡ i
    valid : t.valid spot_at ≡ true
    is_edge : edge spot_at
    to : (t.far spot_at).router ≡ k

  -- where a packet may go from router i to router k, an edge of the view does
  hop : (i k : ℕ) → MayGo w p i k → Hop i k
  hop i k M =
      let L = leads i M.entry k M.leads in
      record {
        spot_at = at_port i L.port;
        from = refl;
        valid = L.valid;
        is_edge = by_row L M.is_row;
        to = L.far_router;
      }
    where
      by_row : (L : Leads i M.entry k) → (published_entry w i p ≡ Some M.entry) ⊎ (control_entry w i p ≡ Some M.entry) → edge (at_port i L.port)
      by_row L (inl h) = inl (record {
        linked = L.up;
        chosen = published_chosen i L.port L.session (h ∙ ap Some L.is_via) ∙ ap (λ (m : ℕ). Some (record { port = L.port; session = m })) (sym L.present);
      })
      by_row L (inr h) =
          let C = control_chosen i L.port L.session (h ∙ ap Some L.is_via) in
          inr (record {
            linked = L.up;
            port_up = (R.inv.sound i).successor_up L.port C.successor (R.inv.there (at_port i L.port) L.valid);
            present = C.seen ∙ sym L.present;
            chosen = C.successor;
          })

  -- ---- walks

  -- a walk of the view from router i meets these routers
  record Walked (i : ℕ) (ks : List ℕ) : Type 0 where
    spots : List LinkEnd
    is_walk : IsEdgeWalk t edge i spots
    meets : met t spots ≡ ks

  -- a way of a packet by published or chosen rows is a walk of the view
  walked : (i : ℕ) (ks : List ℕ) → IsMixedWalk w p (i ∷ ks) → Walked i ks
  walked i [] h = record { spots = []; is_walk = tt; meets = refl }
  walked i (k ∷ ks) h =
      let H = hop i k h.0 in
      let W = walked k ks h.1 in
      record {
        spots = H.spot_at ∷ W.spots;
        is_walk = (H.from, H.valid, H.is_edge, subst (λ (j : ℕ). IsEdgeWalk t edge j W.spots) (sym H.to) W.is_walk);
        meets = λ z. H.to z ∷ W.meets z;
      }

  -- no way by published or chosen rows of one prefix meets a router twice
  pub no_mixed_loops : (walk : List ℕ) → IsMixedWalk w p walk → meets_twice walk ≡ false
  no_mixed_loops [] h = refl
  no_mixed_loops (i ∷ ks) h =
      let W = walked i ks h in
      ap (λ (js : List ℕ). meets_twice (i ∷ js)) (sym W.meets)
      ∙ always_mixed machine_laws t (view n p (opening n) (first_fd n N p)) s (opening_view n N p) R.run i W.spots W.is_walk

  -- a packet goes by the published row of the prefix that matched it
  forwarded : (addr i k : ℕ) → IsForwarded w addr p i k → MayGo w p i k
  forwarded addr i k F = record { entry = F.0; is_row = inl (by_router (slice_get w.routers i) refl F.1); leads = F.2 }
    where
      by_router : (o : Option Router) → slice_get w.routers i ≡ o → option_and_then (λ (r : Router). longest_match addr (r.table).published) o ≡ Some (p, F.0) → option_and_then (λ (r : Router). row_of prefix_cmp p (r.table).published) o ≡ Some F.0
      by_router None at g = absurd (None_not_Some g)
      by_router (Some r) at g = match_is_row addr p F.0 (r.table).published (R.kept.routers_kept i r at).published_sorted g

  -- a packet in a mixture goes by the published or the chosen row of the prefix that matched it
  forwarded_by : (by_control : ℕ → Bool) (addr i k : ℕ) → IsForwardedBy by_control w addr p i k → MayGo w p i k
  forwarded_by by_control addr i k F = record { entry = F.entry; is_row = by_router (slice_get w.routers i) refl F.matched; leads = F.leads }
    where
      by_table : (r : Router) → slice_get w.routers i ≡ Some r → (b : Bool) → longest_match addr (if b then (r.table).control else (r.table).published) ≡ Some (p, F.entry)
          → (row_of prefix_cmp p (r.table).published ≡ Some F.entry) ⊎ (row_of prefix_cmp p (r.table).control ≡ Some F.entry)
      by_table r at true g =
          let Q = R.kept.routers_kept i r at in
          inr (match_is_row addr p F.entry (r.table).control (control_sorted r Q.control_is Q.sorted) g)
      by_table r at false g = inl (match_is_row addr p F.entry (r.table).published (R.kept.routers_kept i r at).published_sorted g)

      by_router : (o : Option Router) → slice_get w.routers i ≡ o → longest_match addr (option_map_or (λ (r : Router). if by_control i then (r.table).control else (r.table).published) o []) ≡ Some (p, F.entry)
          → (option_and_then (λ (r : Router). row_of prefix_cmp p (r.table).published) o ≡ Some F.entry) ⊎ (option_and_then (λ (r : Router). row_of prefix_cmp p (r.table).control) o ≡ Some F.entry)
      by_router None at g = absurd (None_not_Some g)
      by_router (Some r) at g = by_table r at (by_control i) g

  -- a way of a packet in a mixture is a way by published or chosen rows
  mixture_walk : (by_control : ℕ → Bool) (addr : ℕ) (walk : List ℕ) → IsMixtureWalk by_control w addr p walk → IsMixedWalk w p walk
  mixture_walk by_control addr (i ∷ k ∷ ks) h = (forwarded_by by_control addr i k h.0, mixture_walk by_control addr (k ∷ ks) h.1)
  mixture_walk by_control addr _ h = tt

  -- no way of a packet in a mixture meets a router twice
  pub no_mixture_loops : (by_control : ℕ → Bool) (addr : ℕ) (walk : List ℕ) → IsMixtureWalk by_control w addr p walk → meets_twice walk ≡ false
  no_mixture_loops by_control addr walk h = no_mixed_loops walk (mixture_walk by_control addr walk h)

  -- a way of a packet is a way by published or chosen rows
  packet_walk : (addr : ℕ) (walk : List ℕ) → IsPacketWalk w addr p walk → IsMixedWalk w p walk
  packet_walk addr (i ∷ k ∷ ks) h = (forwarded addr i k h.0, packet_walk addr (k ∷ ks) h.1)
  packet_walk addr _ h = tt

  -- no way of a packet meets a router twice
  pub no_packet_loops : (addr : ℕ) (walk : List ℕ) → IsPacketWalk w addr p walk → meets_twice walk ≡ false
  no_packet_loops addr walk h = no_mixed_loops walk (packet_walk addr walk h)

-- ---- distances

module _ (n : Network) (N : IsWired n) (p : Prefix) (w : World) (rs : List Router) (R : Reached n N p w rs) where
  -- the view of the world
  abbrev at_view : State
  at_view = view n p w R.published_fd

  -- what the view shows is what the lists have
  module _ (i k : ℕ) (e : Entry) (L : Leads n N p w rs R i e k) where
    -- the port by which the entry leads on
    abbrev spot_here : LinkEnd
    spot_here = at_port i L.port

    -- the feasible distance of the machine across is that of router k
    fd_far : (at_view.machine (far n spot_here).router).fd ≡ fd_in w.routers p k
    fd_far = ap (λ (j : ℕ). (at_view.machine j).fd) L.far_router ∙ fd_is p (slice_get w.routers k)

    -- the published feasible distance across is that which router k had when it published last
    published_far : R.published_fd (far n spot_here).router ≡ fd_in rs p k
    published_far = ap R.published_fd L.far_router ∙ R.fds_are k

    -- along a published row both feasible distances of router k are below that which router i published
    falls_published : published_entry w i p ≡ Some e → (fd_in w.routers p k < fd_in rs p i) × (fd_in rs p k < fd_in rs p i)
    falls_published row =
        let chosen = published_chosen n N p w rs R i L.port L.session (row ∙ ap Some L.is_via) in
        let shown : is_next_hop L.port (at_view.session spot_here) (at_view.published i) ≡ true =
        subst (λ (o : Option NextHop). is_next_hop L.port (at_view.session spot_here) o ≡ true) (sym chosen)
        (and_from (L.port == L.port) (L.session == at_view.session spot_here) (eq-eqb L.port L.port refl) (eq-eqb L.session (at_view.session spot_here) (sym L.present))) in
        let h = (R.inv.links spot_here L.valid L.up).published_edge_falls shown in
        let own = R.fds_are i in
        (omega (arith, h.0, fd_far, own), omega (arith, h.1, published_far, own))

    -- along a chosen row both feasible distances of router k are below the present one of router i
    falls_control : control_entry w i p ≡ Some e → (fd_in w.routers p k < fd_in w.routers p i) × (fd_in rs p k < fd_in w.routers p i)
    falls_control row =
        let C = control_chosen n N p w rs R i L.port L.session (row ∙ ap Some L.is_via) in
        let m = at_view.machine i in
        let current : is_current m L.port (at_view.seen spot_here) (at_view.session spot_here) ≡ true =
        and_from (is_up_at m L.port) (at_view.seen spot_here == at_view.session spot_here) ((R.inv.sound i).successor_up L.port C.successor (R.inv.there spot_here L.valid)) (eq-eqb (at_view.seen spot_here) (at_view.session spot_here) (C.seen ∙ sym L.present)) in
        let port : is_port L.port m.successor ≡ true = subst (λ (o : Option ℕ). is_port L.port o ≡ true) (sym C.successor) (eq-eqb L.port L.port refl) in
        let h = (R.inv.links spot_here L.valid L.up).control_edge_falls (and_from (is_current m L.port (at_view.seen spot_here) (at_view.session spot_here)) (is_port L.port m.successor) current port) in
        let own : m.fd ≡ fd_in w.routers p i = fd_is p (slice_get w.routers i) in
        (omega (arith, h.0, fd_far, own), omega (arith, h.1, published_far, own))

-- along published and chosen rows the feasible distances fall, after every run
pub distances_fall : DistancesAlwaysFall
distances_fall n ss w valid r = record {
  by_published = λ p i k e row lead. falls_published n N p (history n ss).world (history n ss).published (here p) i k e (leads n N p (history n ss).world (history n ss).published (here p) i e k lead) row;
  by_control = λ p i k e row lead. falls_control n N p (history n ss).world (history n ss).published (here p) i k e (leads n N p (history n ss).world (history n ss).published (here p) i e k lead) row;
}
  where
    N : IsWired n
    N = wired n valid

    here : (p : Prefix) → Reached n N p (history n ss).world (history n ss).published
    here p = subst (λ (v : World). Reached n N p v (history n ss).published) (sym (history_world n ss w r)) (reached n N p ss w r)

-- no packet meets a router twice in a mixture, in every world of every run
pub always_mixtures_free : HoldsInEveryWorld NoMixtureLoops
always_mixtures_free n ss w valid r by_control addr p walk h = no_mixture_loops n (wired n valid) p w (history n ss).published (reached n (wired n valid) p ss w r) by_control addr walk h

-- no packet meets a router twice, in every world of every run
pub always_packets_free : HoldsInEveryWorld NoPacketLoops
always_packets_free n ss w valid r addr p walk h = no_packet_loops n (wired n valid) p w (history n ss).published (reached n (wired n valid) p ss w r) addr walk h
