-- The law at rest: in a quiet network each router's successors lead along a cheapest way to an attached router.
use Rattle.std.proofs.Common.{◌≡◌, ◌⊎◌, ℕ, zero, suc, ◌+◌, ◌*◌, ◌<◌, ◌≤◌, Bool, true, false, List, [], ◌∷◌, Option, Some, None, length, refl, ap, sym, inl, inr, arith, ◌∙◌, eq-eqb, lt-ltb, slice_get, is_some, nat_lt, if◌then◌else◌}
use Rattle.network_model.proofs.Common.{both_ways, cases_lt, false≢true, Machine, distance, least, ways, port_count, at_home, home_ways, least-append, LinkEnd, State, at_port, infinity, plus, most_routers}
use Rattle.network_model.specs.{declared.machine.Neighbour.Neighbour, declared.route.NextHop.NextHop}
use Rattle.machine_laws.specs.Laws.{is_up_at, reported_at}
use Rattle.loop_freedom.specs.Network.{Topology, IsEdgeWalk, next_hop_of}
use Rattle.loop_freedom.proofs.Walks.{walk_map}
use Rattle.least_cost.specs.Quiet.{LeadsHome, Follows, IsQuiet, IsHome, IsRouted, HasNoWayOut, IsOptimal, OptimalAtQuiet, walk_end, edges_cost}
use Rattle.machine_laws.proofs.{Distances.distance_cases, Distances.least_below, Successors.port_successor_is, Successors.port_successor_none, Successors.port_successor_home, Lists.append_within, Lists.append_last}
use Rattle.least_cost.proofs.{Replay.replay, Replay.cost_of, Told.last_held, Runs.kept_run, Below.count_below, Below.below_at_most, Below.below_gains}
use Rattle.least_cost.proofs.Kept.{pending, port_at, line, held, Kept}

-- the distance plus a cost is at most their sum
plus_under : (a c : ℕ) → plus a c ≤ a + c
plus_under a c = go (nat_lt (a + c) infinity) refl
  where
    go : (b : Bool) → nat_lt (a + c) infinity ≡ b → (if b then a + c else infinity) ≤ a + c
    go true h = omega arith
    go false h = not_below (cases_lt (a + c) infinity)
      where
        not_below : (a + c < infinity) ⊎ (infinity ≤ a + c) → infinity ≤ a + c
        not_below (inl l) = absurd (both_ways (nat_lt (a + c) infinity) h (lt-ltb (a + c) infinity l))
        not_below (inr l) = l

-- the neighbour at a port that is up
record UpPort (m : Machine) (p : ℕ) : Type 0 where
  neighbour : Neighbour
  at : slice_get m.ports p ≡ Some neighbour
  is_up : neighbour.up ≡ true
  reported : neighbour.reported ≡ reported_at m p
  costs : neighbour.cost ≡ cost_of (slice_get m.ports p)

-- there is a neighbour at each port that is up
up_port : (m : Machine) (p : ℕ) → is_up_at m p ≡ true → UpPort m p
up_port m p u = go (slice_get m.ports p) refl
  where
    go : (o : Option Neighbour) → slice_get m.ports p ≡ o → UpPort m p
    go None h = absurd (false≢true (rw h at u))
    go (Some n) h = record { neighbour = n; at = h; is_up = rw h at u; reported = rw h refl; costs = rw h refl }

-- ---- a quiet network in a state that is kept: no more routers than the widest network has, and costs of 16 bits
module _ (t : Topology) (n : ℕ) (s : State) (k : Kept t s) (q : IsQuiet t n s) (few : n ≤ most_routers) (placed : (e : LinkEnd) → t.valid e ≡ true → e.router < n) (cheap : (e : LinkEnd) → t.valid e ≡ true → s.cost e ≤ 65535) (cheap_home : (i c : ℕ) → i < n → (s.machine i).attachment ≡ Some c → c ≤ 65535) where
  -- nothing waits, so each port is what it will be
  pending_now : (e : LinkEnd) → t.valid e ≡ true → pending (line s e) ≡ port_at s e
  pending_now e v = ap (λ x. replay x (port_at s e)) (q.inbox_empty e v)

  -- each machine knows whether the link is up
  up_now : (e : LinkEnd) → t.valid e ≡ true → is_up_at (s.machine e.router) e.port ≡ s.up e
  up_now e v = sym (ap (λ p. p.up) (pending_now e v)) ∙ (k.lines e v).end_up

  -- each router sees the present session
  seen_now : (e : LinkEnd) → t.valid e ≡ true → s.seen e ≡ s.session e
  seen_now e v = sym (ap (λ p. p.session) (pending_now e v)) ∙ (k.lines e v).end_session

  -- each machine knows the cost of a link that is up
  pub cost_now : (e : LinkEnd) → t.valid e ≡ true → s.up e ≡ true → cost_of (slice_get (s.machine e.router).ports e.port) ≡ s.cost e
  cost_now e v u = sym (ap (λ p. p.cost) (pending_now e v)) ∙ (k.lines e v).end_cost u

  -- the far end of a link that is up was told the distance
  told_now : (e : LinkEnd) → t.valid e ≡ true → s.up e ≡ true → reported_at (s.machine (t.far e).router) (t.far e).port ≡ (s.machine e.router).rd
  told_now e v u =
      sym (ap (λ p. p.reported) (pending_now (t.far e) (t.far_valid e v)))
      ∙ sym (ap (last_held (s.session e) (pending (line s (t.far e))).reported) nothing)
      ∙ k.sight e v u
      ∙ ap (λ b. if b then (s.machine e.router).rd else infinity) (eq-eqb (s.seen e) (s.session e) (seen_now e v))
    where
      nothing : held s e ≡ []
      nothing = rw (q.ripe_empty e v, q.unripe_empty e v) refl

  -- each machine knows the distance of the neighbour over a link that is up
  pub reported_now : (e : LinkEnd) → t.valid e ≡ true → s.up e ≡ true → reported_at (s.machine e.router) e.port ≡ (s.machine (t.far e).router).rd
  reported_now e v u =
      sym (ap (λ x. reported_at (s.machine x.router) x.port) (t.far_far e v))
      ∙ told_now (t.far e) (t.far_valid e v) (k.ends_up e v ∙ u)

  -- the distance of router i
  rd : ℕ → ℕ
  rd i = (s.machine i).rd

  -- no router is further away than by way of a neighbour
  rd_under : (e : LinkEnd) → t.valid e ≡ true → s.up e ≡ true → rd e.router ≤ s.cost e + rd (t.far e).router
  unfolding rd
  rd_under e v u =
      let by : distance port.neighbour ≡ plus port.neighbour.reported port.neighbour.cost = rw port.is_up refl in
      omega (
        arith,
        (k.sound e.router).passive_least (q.passive e.router (placed e v)),
        least-append (s.machine e.router).ports (home_ways (s.machine e.router).attachment),
        least_below (s.machine e.router).ports e.port port.neighbour port.at,
        by,
        plus_under port.neighbour.reported port.neighbour.cost,
        port.reported,
        port.costs,
        reported_now e v u,
        cost_now e v u,
      )
    where
      port : UpPort (s.machine e.router) e.port
      port = up_port (s.machine e.router) e.port (up_now e v ∙ u)

  -- nor than its attachment
  home_under : (i c : ℕ) → i < n → (s.machine i).attachment ≡ Some c → rd i ≤ c
  unfolding rd
  home_under i c l h =
      let here : least (home_ways (s.machine i).attachment) ≡ least (home_ways (Some c)) = ap (λ a. least (home_ways a)) h in
      omega (arith, (k.sound i).passive_least (q.passive i l), least-append (s.machine i).ports (home_ways (s.machine i).attachment), here, plus_under 0 c)

  -- no walk to an attached router costs less than the distance
  walk_under : (i : ℕ) → i < n → (es : List LinkEnd) (w : LeadsHome t s i es) → rd i ≤ edges_cost s es + w.cost
  unfolding rd
  walk_under i l [] w = omega (arith, home_under i w.cost l w.home)
  walk_under i l (e ∷ es) w =
      let v = w.live.1 in
      let rest = walk_under (t.far e).router (placed (t.far e) (t.far_valid e v)) es (record { live = w.live.3; cost = w.cost; home = w.home }) in
      omega (arith, rd_under e v w.live.2, rest, ap (λ j. (s.machine j).rd) w.live.0)

  -- a link that router i follows, at whose other end its distance is less by the cost
  record Hop (i : ℕ) : Type 0 where
    place : LinkEnd
    from : place.router ≡ i
    there : t.valid place ≡ true
    follows : Follows s place
    adds : rd i ≡ s.cost place + rd (t.far place).router

  -- a router that is not out of reach, whose successor is a port, hops to it
  hop_by : (i p : ℕ) → i < n → p < port_count (s.machine i) → rd i < infinity → (s.machine i).successor ≡ Some p → Hop i
  unfolding rd
  hop_by i p l far b h = record {
    place = at_port i p;
    from = refl;
    there = v;
    follows = record {
      sends = record { linked = up; chosen = q.published_is i l ∙ ap (next_hop_of (λ x. s.seen (at_port i x))) (port_successor_is (s.machine i) p h far) ∙ ap (λ x. Some (let o : NextHop = record { port = p; session = x } in o)) (seen_now (at_port i p) v) };
      chooses = record { linked = up; port_up = on; present = seen_now (at_port i p) v; chosen = h };
    };
    adds = go (distance_cases port.neighbour);
  }
    where
      on : is_up_at (s.machine i) p ≡ true
      on = (k.sound i).successor_up p h far

      v : t.valid (at_port i p) ≡ true
      v = k.up_valid (at_port i p) on

      up : s.up (at_port i p) ≡ true
      up = sym (up_now (at_port i p) v) ∙ on

      port : UpPort (s.machine i) p
      port = up_port (s.machine i) p on

      attains : distance port.neighbour ≡ (s.machine i).rd
      attains = (k.sound i).passive_attains p port.neighbour (q.passive i l) h (append_within (s.machine i).ports (home_ways (s.machine i).attachment) p far ∙ port.at) ∙ sym ((k.sound i).passive_least (q.passive i l))

      go : ((port.neighbour.up ≡ true) × (distance port.neighbour ≡ port.neighbour.reported + port.neighbour.cost) × (distance port.neighbour < infinity)) ⊎ (distance port.neighbour ≡ infinity)
          → (s.machine i).rd ≡ s.cost (at_port i p) + (s.machine (t.far (at_port i p)).router).rd
      go (inl (u, d, f)) = omega (arith, attains, d, port.reported, port.costs, reported_now (at_port i p) v up, cost_now (at_port i p) v up)
      go (inr f) = absurd (omega (arith, attains, f, b))

  -- the attachment of router i is its successor, and its distance
  record Home (i : ℕ) : Type 0 where
    cost : ℕ
    is_home : IsHome s i cost
    at : rd i ≡ cost

  -- a router that is not out of reach, whose successor is no port, is at its attachment
  home_by : (i p : ℕ) → i < n → port_count (s.machine i) ≤ p → rd i < infinity → (s.machine i).successor ≡ Some p → Home i
  unfolding rd
  home_by i p l past b h = go (s.machine i).attachment refl ((k.sound i).successor_attached chosen)
    where
      last : p ≡ port_count (s.machine i)
      last = omega (arith, past, (k.sound i).successor_within p h)

      chosen : (s.machine i).successor ≡ Some (port_count (s.machine i))
      chosen = h ∙ ap (λ (x : ℕ). Some x) last

      at_cost : (c : ℕ) → ((◌≡◌ {A = Bool} true true) × (distance (at_home c) ≡ 0 + c) × (distance (at_home c) < infinity)) ⊎ (distance (at_home c) ≡ infinity)
          → distance (at_home c) ≡ (s.machine i).rd → (s.machine i).rd ≡ c
      at_cost c (inl (u, d, f)) e = omega (arith, d, e)
      at_cost c (inr f) e = absurd (omega (arith, f, e, b))

      go : (a : Option ℕ) → (s.machine i).attachment ≡ a → is_some (s.machine i).attachment ≡ true → Home i
      go None e some = absurd (false≢true (rw e at some))
      go (Some c) e some =
          let here : slice_get (ways (s.machine i)) (port_count (s.machine i)) ≡ Some (at_home c) = rw e (append_last (s.machine i).ports (at_home c)) in
          let attains = (k.sound i).passive_attains (port_count (s.machine i)) (at_home c) (q.passive i l) chosen here ∙ sym ((k.sound i).passive_least (q.passive i l)) in
          record { cost = c; is_home = record { attached = e; chosen = chosen; no_next_hop = q.published_is i l ∙ ap (next_hop_of (λ x. s.seen (at_port i x))) (port_successor_home (s.machine i) chosen) }; at = at_cost c (distance_cases (at_home c)) attains }

  -- a router with a successor that is not out of reach hops to it, or is at its attachment
  hop_or_home : (i p : ℕ) → i < n → rd i < infinity → (s.machine i).successor ≡ Some p → (Hop i) ⊎ (Home i)
  hop_or_home i p l b h = go (cases_lt p (port_count (s.machine i)))
    where
      go : (p < port_count (s.machine i)) ⊎ (port_count (s.machine i) ≤ p) → (Hop i) ⊎ (Home i)
      go (inl f) = inl (hop_by i p l f b h)
      go (inr f) = inr (home_by i p l f b h)

  -- a router that is not out of reach has a hop, or its attachment is its successor
  hop : (i : ℕ) → i < n → rd i < infinity → (Hop i) ⊎ (Home i)
  unfolding rd
  hop i l b = go (s.machine i).successor refl
    where
      go : (o : Option ℕ) → (s.machine i).successor ≡ o → (Hop i) ⊎ (Home i)
      go None h = absurd (omega (arith, ((k.sound i).passive_none (q.passive i l) h).0, b))
      go (Some p) h = hop_or_home i p l b h

  -- links followed from router i lead to a router at its attachment, at the distance of i, past no more routers than are nearer
  record Chain (i : ℕ) : Type 0 where
    places : List LinkEnd
    follows : IsEdgeWalk t (Follows s) i places
    cost : ℕ
    reaches : IsHome s (walk_end t i places) cost
    cost_is : edges_cost s places + cost ≡ rd i
    few_hops : length places ≤ count_below rd (rd i) n
    near : rd i ≤ 65535 + 65535 * count_below rd (rd i) n

  -- where the successor is the attachment the chain ends
  chain_here : (i : ℕ) → i < n → Home i → Chain i
  chain_here i l h = record { places = []; follows = tt; cost = h.cost; reaches = h.is_home; cost_is = omega (arith, h.at); few_hops = omega arith; near = omega (arith, h.at, cheap_home i h.cost l h.is_home.attached) }

  -- a hop and the chain from its other end are a chain
  chain_on : (i : ℕ) (h : Hop i) → Chain (t.far h.place).router → Chain i
  chain_on i h c =
      let e = h.place in
      let j = (t.far e).router in
      let rises : rd j < rd i = omega (arith, h.adds, (k.lines e h.there).positive) in
      let gains = below_gains rd (rd j) (rd i) n j (placed (t.far e) (t.far_valid e h.there)) (omega arith) rises in
      record {
        places = e ∷ c.places;
        follows = (h.from, h.there, h.follows, c.follows);
        cost = c.cost;
        reaches = c.reaches;
        cost_is = omega (arith, h.adds, c.cost_is);
        few_hops = omega (arith, c.few_hops, gains);
        near = omega (arith, c.near, gains, h.adds, cheap e h.there);
      }

  -- a router at a distance below d has a chain, if it is not out of reach
  chain_by : (d i : ℕ) → rd i < d → i < n → rd i < infinity → Chain i
  chain_by zero i b l f = absurd (omega (arith, b))
  chain_by (suc d) i b l f = go (hop i l f) (chain_by d)
    where
      go : (Hop i) ⊎ (Home i) → ((j : ℕ) → rd j < d → j < n → rd j < infinity → Chain j) → Chain i
      go (inr h) rest = chain_here i l h
      go (inl first) rest =
          let v = first.there in
          let e = first.place in
          let rises : rd (t.far e).router < rd i = omega (arith, first.adds, (k.lines e v).positive) in
          chain_on i first (rest (t.far e).router (omega (arith, rises, b)) (placed (t.far e) (t.far_valid e v)) (omega (arith, rises, f)))

  -- a router that is not out of reach has a chain
  chain : (i : ℕ) → i < n → rd i < infinity → Chain i
  chain i l f = chain_by (suc (rd i)) i (omega arith) l f

  -- fewer than n routers are nearer than a router
  fewer : (i : ℕ) → i < n → count_below rd (rd i) n < n
  fewer i l = omega (arith, below_gains rd (rd i) (suc (rd i)) n i l (omega arith) (omega arith), below_at_most rd (suc (rd i)) n)

  -- where router i is further than router j, at least these two are not nearer than j
  two_not_nearer : (i j : ℕ) → i < n → j < n → rd j < rd i → suc (suc (count_below rd (rd j) n)) ≤ n
  two_not_nearer i j l m further =
      let itself = below_gains rd (rd j) (suc (rd j)) n j m (omega arith) (omega arith) in
      let other = below_gains rd (suc (rd j)) (suc (rd i)) n i l (omega (arith, further)) (omega arith) in
      omega (arith, itself, other, below_at_most rd (suc (rd i)) n)

  -- a neighbour of a router that is not out of reach is not out of reach: were it further than that, the chain from the other
  -- router would go past neither of the two, and cost less than infinity by more than a link
  reached_one : (e : LinkEnd) → t.valid e ≡ true → s.up e ≡ true → rd (t.far e).router < infinity → rd e.router < infinity
  reached_one e v u f = go (cases_lt (rd e.router) infinity)
    where
      there : (t.far e).router < n
      there = placed (t.far e) (t.far_valid e v)

      go : (rd e.router < infinity) ⊎ (infinity ≤ rd e.router) → rd e.router < infinity
      go (inl reached) = reached
      go (inr past) =
          let two = two_not_nearer e.router (t.far e).router (placed e v) there (omega (arith, past, f)) in
          absurd (omega (arith, past, two, few, rd_under e v u, cheap e v, (chain (t.far e).router there f).near))

  -- a router from which a walk leads to an attached router is not out of reach
  reached : (i : ℕ) → i < n → (es : List LinkEnd) → LeadsHome t s i es → rd i < infinity
  unfolding rd
  reached i l [] w = omega (arith, home_under i w.cost l w.home, cheap_home i w.cost l w.home)
  reached i l (e ∷ es) w =
      let v = w.live.1 in
      let rest = reached (t.far e).router (placed (t.far e) (t.far_valid e v)) es (record { live = w.live.3; cost = w.cost; home = w.home }) in
      omega (arith, reached_one e v w.live.2 rest, ap (λ j. (s.machine j).rd) w.live.0)

  -- a router that is not out of reach is routed
  routed : (i : ℕ) → i < n → rd i < infinity → IsRouted t n s i
  unfolding rd
  routed i l f = record {
    chain = (chain i l f).places;
    follows = (chain i l f).follows;
    cost = (chain i l f).cost;
    reaches = (chain i l f).reaches;
    hops = omega (arith, (chain i l f).few_hops, fewer i l);
    cost_is = (chain i l f).cost_is;
    least_cost = walk_under i l;
  }

  -- a router whose distance is below infinity is routed
  pub routed_below : (i : ℕ) → i < n → (s.machine i).rd < infinity → IsRouted t n s i
  unfolding rd
  routed_below i l f = routed i l f

  -- a router with a successor is not out of reach
  successor_reached : (i p : ℕ) → i < n → (s.machine i).successor ≡ Some p → rd i < infinity
  unfolding rd
  successor_reached i p l h = go (cases_lt p (port_count (s.machine i)))
    where
      by_port : p < port_count (s.machine i) → (s.machine i).rd < infinity
      by_port f =
          let on = (k.sound i).successor_up p h f in
          let v = k.up_valid (at_port i p) on in
          let up : s.up (at_port i p) ≡ true = sym (up_now (at_port i p) v) ∙ on in
          let nearer : (s.machine (t.far (at_port i p)).router).rd < infinity = omega (arith, (k.sound i).passive_feasible p (q.passive i l) h on, (k.sound i).fd_below, (k.sound i).rd_bounded, reported_now (at_port i p) v up) in
          reached_one (at_port i p) v up nearer

      by_home : (a : Option ℕ) → (s.machine i).attachment ≡ a → is_some (s.machine i).attachment ≡ true → (s.machine i).rd < infinity
      by_home None e some = absurd (false≢true (rw e at some))
      by_home (Some c) e some = omega (arith, home_under i c l e, cheap_home i c l e)

      go : (p < port_count (s.machine i)) ⊎ (port_count (s.machine i) ≤ p) → (s.machine i).rd < infinity
      go (inl f) = by_port f
      go (inr f) =
          let last : p ≡ port_count (s.machine i) = omega (arith, f, (k.sound i).successor_within p h) in
          by_home (s.machine i).attachment refl ((k.sound i).successor_attached (h ∙ ap (λ (x : ℕ). Some x) last))

  -- its distance is below infinity
  pub successor_below : (i p : ℕ) → i < n → (s.machine i).successor ≡ Some p → (s.machine i).rd < infinity
  unfolding rd
  successor_below i p l h = successor_reached i p l h

  -- a router that is out of reach is cut off
  cut_off : (i : ℕ) → i < n → infinity ≤ rd i → HasNoWayOut s i
  unfolding rd
  cut_off i l f = record { no_successor = none; no_next_hop = q.published_is i l ∙ ap (next_hop_of (λ x. s.seen (at_port i x))) (port_successor_none (s.machine i) none); far_away = omega (arith, f, (k.sound i).rd_bounded) }
    where
      go : (o : Option ℕ) → (s.machine i).successor ≡ o → (s.machine i).successor ≡ None
      go None h = h
      go (Some p) h = absurd (omega (arith, successor_reached i p l h, f))

      none : (s.machine i).successor ≡ None
      none = go (s.machine i).successor refl

  -- a chain is a walk of links that are up, to an attached router
  leads : (i : ℕ) (c : Chain i) → LeadsHome t s i c.places
  leads i c = record { live = walk_map t (Follows s) (λ e. s.up e ≡ true) (λ e f. f.sends.linked) i c.places c.follows; cost = c.cost; home = c.reaches.attached }

  -- each router is routed where a walk leads to an attached router, and else cut off
  pub optimal_here : (i : ℕ) → i < n → IsOptimal t n s i
  optimal_here i l = record { connected = λ es w. routed i l (reached i l es w); disconnected = λ none. go none (cases_lt (rd i) infinity) }
    where
      go : ((es : List LinkEnd) → LeadsHome t s i es → ⊥) → (rd i < infinity) ⊎ (infinity ≤ rd i) → HasNoWayOut s i
      go none (inl f) = absurd (none (chain i l f).places (leads i (chain i l f)))
      go none (inr f) = cut_off i l f

-- after every run, each router of a quiet network is routed or cut off
pub optimal_at_quiet : OptimalAtQuiet
optimal_at_quiet t first last o run n few placed cheap cheap_home q i l = optimal_here t n last (kept_run t first last o run) q few placed cheap cheap_home i l
