-- In a quiet network walks along next hops of equal cost are least, and feasible ones come nearer.
use Rattle.std.proofs.Common.{◌≡◌, ◌⊎◌, ℕ, ◌+◌, ◌<◌, ◌≤◌, true, List, [], ◌∷◌, Option, Some, None, refl, sym, subst, inl, inr, arith, ◌∙◌, slice_get}
use Rattle.network_model.proofs.Common.{false≢true, Some_injective, Machine, distance, port_count, LinkEnd, State, infinity, most_routers}
use Rattle.network_model.specs.declared.machine.Neighbour.{Neighbour}
use Rattle.machine_laws.specs.Laws.{is_up_at, reported_at}
use Rattle.loop_freedom.specs.Network.{Topology, IsEdgeWalk}
use Rattle.loop_freedom.proofs.Walks.{walk_map}
use Rattle.least_cost.specs.Quiet.{LeadsHome, Follows, IsQuiet, IsHome, IsRouted, IsOptimal, walk_end, edges_cost}
use Rattle.machine_laws.proofs.{Distances.distance_cases, Lists.append_within}
use Rattle.least_cost.proofs.{Replay.cost_of, Kept.Kept, Runs.kept_run}
use Rattle.least_cost.proofs.AtQuiet.{cost_now, reported_now, routed_below, successor_below, optimal_here}
use Rattle.many_ways.specs.{Network.FeasibleEdge, Quiet.EqualEdge, Quiet.HopsAreGood, Quiet.ManyHopsAtQuiet}

-- the neighbour at a port that is up
pub neighbour_at : (m : Machine) (p : ℕ) → is_up_at m p ≡ true → (x : Neighbour) × (slice_get m.ports p ≡ Some x)
neighbour_at m p u = go (slice_get m.ports p) refl
  where
    go : (o : Option Neighbour) → slice_get m.ports p ≡ o → (x : Neighbour) × (slice_get m.ports p ≡ Some x)
    go None h = absurd (false≢true (rw h at u))
    go (Some x) h = (x, h)

module _ (t : Topology) (n : ℕ) (s : State) (k : Kept t s) (q : IsQuiet t n s) (few : n ≤ most_routers) (placed : (e : LinkEnd) → t.valid e ≡ true → e.router < n) (cheap : (e : LinkEnd) → t.valid e ≡ true → s.cost e ≤ 65535) (cheap_home : (i c : ℕ) → i < n → (s.machine i).attachment ≡ Some c → c ≤ 65535) where
  optimal : (i : ℕ) → i < n → IsOptimal t n s i
  optimal i l = optimal_here t n s k q few placed cheap cheap_home i l

  -- a next hop of equal cost makes up the distance
  pub adds : (e : LinkEnd) → t.valid e ≡ true → EqualEdge s e → (s.machine e.router).rd ≡ s.cost e + (s.machine (t.far e).router).rd
  adds e v E = go (distance_cases E.neighbour)
    where
      reported : reported_at (s.machine e.router) e.port ≡ (E.neighbour).reported
      reported = rw E.at refl

      cost : cost_of (slice_get (s.machine e.router).ports e.port) ≡ (E.neighbour).cost
      cost = rw E.at refl

      go : (((E.neighbour).up ≡ true) × (distance E.neighbour ≡ (E.neighbour).reported + (E.neighbour).cost) × (distance E.neighbour < infinity)) ⊎ (distance E.neighbour ≡ infinity)
          → (s.machine e.router).rd ≡ s.cost e + (s.machine (t.far e).router).rd
      go (inl f) =
          let a = reported_now t n s k q few placed cheap cheap_home e v E.feasible.linked in
          let b = cost_now t n s k q few placed cheap cheap_home e v E.feasible.linked in
          let c = E.equal in
          let d = f.1 in
          omega (arith, reported, cost, a, b, c, d)
      go (inr f) = absurd (let c = E.equal in let d = E.reached in omega (arith, f, c, d))

  -- a router at its attachment is at its cost
  at_home : (i cost : ℕ) → i < n → IsHome s i cost → IsRouted t n s i → (s.machine i).rd ≡ cost
  at_home i cost l H R = by_chain R.chain R.follows R.reaches R.cost_is
    where
      by_chain : (es : List LinkEnd) → IsEdgeWalk t (Follows s) i es → IsHome s (walk_end t i es) R.cost → edges_cost s es + R.cost ≡ (s.machine i).rd → (s.machine i).rd ≡ cost
      by_chain [] f r is =
          let same : R.cost ≡ cost = Some_injective (sym r.attached ∙ H.attached) in
          omega (arith, is, same)
      by_chain (e ∷ es) f r is =
          let chosen : (s.machine i).successor ≡ Some e.port = subst (λ (j : ℕ). (s.machine j).successor ≡ Some e.port) f.0 ((f.2).chooses).chosen in
          let port : e.port ≡ port_count (s.machine i) = Some_injective (sym chosen ∙ H.chosen) in
          let there : e.port < port_count (s.machine i) = subst (λ (j : ℕ). e.port < port_count (s.machine j)) f.0 (k.there e f.1) in
          absurd (omega (arith, port, there))

  -- a walk along next hops of equal cost makes up the distance
  makes_up : (i : ℕ) (es : List LinkEnd) → i < n → IsEdgeWalk t (EqualEdge s) i es → (s.machine i).rd ≡ edges_cost s es + (s.machine (walk_end t i es)).rd
  makes_up i [] l f = omega arith
  makes_up i (e ∷ es) l f =
      let one : (s.machine i).rd ≡ s.cost e + (s.machine (t.far e).router).rd = subst (λ (j : ℕ). (s.machine j).rd ≡ s.cost e + (s.machine (t.far e).router).rd) f.0 (adds e f.1 f.2) in
      let rest = makes_up (t.far e).router es (placed (t.far e) (t.far_valid e f.1)) f.3 in
      omega (arith, one, rest)

  -- it ends at a router of the network
  ends_within : (i : ℕ) (es : List LinkEnd) → i < n → IsEdgeWalk t (EqualEdge s) i es → walk_end t i es < n
  ends_within i [] l f = l
  ends_within i (e ∷ es) l f = ends_within (t.far e).router es (placed (t.far e) (t.far_valid e f.1)) f.3

  equal_is_least : (i : ℕ) → i < n → (es : List LinkEnd) → IsEdgeWalk t (EqualEdge s) i es → (cost : ℕ) → IsHome s (walk_end t i es) cost
      → (edges_cost s es + cost ≡ (s.machine i).rd) × ((others : List LinkEnd) (w : LeadsHome t s i others) → edges_cost s es + cost ≤ edges_cost s others + w.cost)
  equal_is_least i l es f cost H =
      let j = walk_end t i es in
      let lj = ends_within i es l f in
      let home : LeadsHome t s j [] = record { live = tt; cost = cost; home = H.attached } in
      let R = (optimal j lj).connected [] home in
      let at = at_home j cost lj H R in
      let up = makes_up i es l f in
      let leads : LeadsHome t s i es = record { live = walk_map t (EqualEdge s) (λ e. s.up e ≡ true) (λ e E. E.feasible.linked) i es f; cost = cost; home = H.attached } in
      let S = (optimal i l).connected es leads in
      (omega (arith, at, up), λ others w. (let le = S.least_cost others w in omega (arith, at, up, le)))

  -- a feasible next hop leads to a router that is nearer, and routed
  no_dead_end : (i : ℕ) → i < n → (e : LinkEnd) → e.router ≡ i → t.valid e ≡ true → FeasibleEdge s e → ((s.machine (t.far e).router).rd < (s.machine i).rd) × IsRouted t n s (t.far e).router
  no_dead_end i l e r v E =
      let a = reported_now t n s k q few placed cheap cheap_home e v E.linked in
      let b = E.below in
      let c = (k.sound e.router).fd_below in
      let d = (k.sound e.router).rd_bounded in
      let near : (s.machine (t.far e).router).rd < (s.machine e.router).rd = omega (arith, a, b, c) in (
        subst (λ (j : ℕ). (s.machine (t.far e).router).rd < (s.machine j).rd) r near,
        routed_below t n s k q few placed cheap cheap_home (t.far e).router (placed (t.far e) (t.far_valid e v)) (omega (arith, a, b, c, d)),
      )

  -- the row is a next hop of equal cost
  row_is_equal : (i : ℕ) → i < n → (e : LinkEnd) → e.router ≡ i → t.valid e ≡ true → Follows s e → EqualEdge s e
  row_is_equal i l e r v F =
      let m = s.machine e.router in
      let S = k.sound e.router in
      let C = F.chooses in
      let le : e.router < n = placed e v in
      let x = neighbour_at m e.port C.port_up in
      let low : reported_at m e.port < m.fd = S.passive_feasible e.port (q.passive e.router le) C.chosen C.port_up in
      let E : FeasibleEdge s e = record { linked = C.linked; port_up = C.port_up; present = C.present; below = low } in
      let attains = S.passive_attains e.port x.0 (q.passive e.router le) C.chosen (append_within m.ports _ e.port (k.there e v) ∙ x.1) in
      record {
        feasible = E;
        neighbour = x.0;
        at = x.1;
        equal = attains ∙ sym (S.passive_least (q.passive e.router le));
        reached = successor_below t n s k q few placed cheap cheap_home e.router e.port le C.chosen;
      }

  hops_are_good : (i : ℕ) → i < n → HopsAreGood t n s i
  hops_are_good i l = record { equal_is_least = equal_is_least i l; row_is_equal = row_is_equal i l; no_dead_end = no_dead_end i l }

-- after every run
pub many_ways_at_quiet : ManyHopsAtQuiet
many_ways_at_quiet t first last o run n few placed cheap cheap_home q i l = hops_are_good t n last (kept_run t first last o run) q few placed cheap cheap_home i l
