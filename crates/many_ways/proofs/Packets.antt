-- In a network, where a row or a feasible next hop leads to a router, feasible distances fall and that one has a row of the same prefix: so
-- no packet meets a router twice. The next hops are all that were feasible when their routers published last, or that are now.
use Rattle.std.proofs.Common.{refl, sym, ap, subst, ◌∙◌, inl, inr, arith, ◌<◌, ◌≤◌, ◌≡◌, ◌⊎◌, ℕ, Bool, true, false, if◌then◌else◌, List, [], ◌∷◌, length, Option, Some, None, slice_get}
use Rattle.no_packet_loops.proofs.Common.{meets_twice, option_map_or, Prefix, Machine, opening_machine, infinity, Entry, Via, entry_leads, Router, World, Network, opening, machine_of, session_at, Runs, History, history, fd_in, None_not_Some, Topology, NextHop, State, at_port, is_up_at, Step, IsNetwork, reported_at}
use Rattle.no_packet_loops.specs.Packets.{mixture_rows}
use Rattle.no_packet_loops.proofs.{Runs.Reached, Runs.fd_is, Wiring.IsWired, Wiring.wired, Places.topology, View.on_router-there, Walks.match_is_row, Walks.Leads, Walks.leads}
use Rattle.all_packets.specs.Packets.{IsWayBy}
use Rattle.all_packets.proofs.Ways as ways
use Rattle.all_packets.proofs.Improving.{Improves, LeadsBy, Matched, matched_once, matched_few, way_by}
use Rattle.many_ways.specs.Network.{Wide, Among, HopEdge, FeasibleEdge}
use Rattle.many_ways.specs.Packets.{feasible_hops, feasible_by, MayGoBy, MayGoByFeasible, NoFeasibleHopCircles, FeasibleHopWaysEnd, HoldsInEveryHistory}
use Rattle.many_ways.proofs.{Walks.hop_falls, Walks.feasible_falls, Runs.wide_view, Runs.WideReached, Runs.wide_reached, Feasible.FeasibleHop, Feasible.feasible_hop}

module _ (n : Network) (ss : List Step) (v : World) (valid : IsNetwork n) (runs : Runs (opening n) ss v) where
  abbrev N : IsWired n
  N = wired n valid

  abbrev h : History
  h = history n ss

  abbrev w : World
  w = h.world

  -- the feasible distance that goes with what a router chose, or with what it published
  abbrev fd_by : Bool → Prefix → ℕ → ℕ
  fd_by b p i = fd_in (if b then w.routers else h.published) p i

  -- the rows of router i
  abbrev rows : Bool → ℕ → List (Prefix × Entry)
  rows b i = mixture_rows (λ j. b) w i

  -- a row of router i may lead to router k: by its entry, or by a feasible next hop
  abbrev MayLead : Bool → Prefix → ℕ → ℕ → Type 0
  MayLead b p i k = LeadsBy rows (entry_leads w) b p i k ⊎ ((o : NextHop) × Among o (feasible_by b h i p) × (entry_leads w i (Via o.port o.session) ≡ Some k))

  module _ (p : Prefix) where
    X : WideReached n N p w h.published
    X = wide_reached n N p ss v runs

    abbrev R : Reached n N p w h.published
    R = X.reached

    abbrev t : Topology
    t = topology n N

    abbrev W : Wide
    W = wide_view n p w h.published R.published_fd

    abbrev s : State
    s = W.state

    -- port q of router i leads to router k, over a link that is up in this session
    record At (i q session k : ℕ) : Type 0 where
      there : t.valid (at_port i q) ≡ true
      up : s.up (at_port i q) ≡ true
      present : s.session (at_port i q) ≡ session
      far_router : (t.far (at_port i q)).router ≡ k

    hop_at : (i q session k : ℕ) → entry_leads w i (Via q session) ≡ Some k → At i q session k
    hop_at i q session k lead =
        let L : Leads n N p w h.published R i (Via q session) k = leads n N p w h.published R i (Via q session) k lead in
        let is = L.is_via in
        let port : L.port ≡ q = cc in
        let ses : L.session ≡ session = cc in
        record {
          there = subst (λ (x : ℕ). t.valid (at_port i x) ≡ true) port L.valid;
          up = subst (λ (x : ℕ). s.up (at_port i x) ≡ true) port L.up;
          present = subst (λ (x : ℕ). s.session (at_port i x) ≡ L.session) port L.present ∙ ses;
          far_router = subst (λ (x : ℕ). (t.far (at_port i x)).router ≡ k) port L.far_router;
        }

    -- what the view shows of feasible distances
    present_fd : (k : ℕ) → (s.machine k).fd ≡ fd_by true p k
    present_fd k = fd_is p (slice_get w.routers k)

    published_fd : (k : ℕ) → s.published_fd k ≡ fd_by false p k
    published_fd k = R.fds_are k

    -- neither is above infinity
    bounded : (b : Bool) (i : ℕ) → fd_by b p i ≤ infinity
    bounded true i =
        let below = (R.inv.sound i).fd_below in
        let rd = (R.inv.sound i).rd_bounded in
        let is = present_fd i in
        omega (arith, below, rd, is)
    bounded false i = (let le = R.inv.pfd_bounded i in let is = published_fd i in omega (arith, le, is))

    -- along a next hop that was feasible at the last publication both feasible distances of the far router are less
    published_lower : (i k : ℕ) (o : NextHop) → Among o (feasible_by false h i p) → entry_leads w i (Via o.port o.session) ≡ Some k → (fd_by true p k < fd_by false p i) × (fd_by false p k < fd_by false p i)
    published_lower i k o a lead =
        let A : At i o.port o.session k = hop_at i o.port o.session k lead in
        let E : HopEdge W (at_port i o.port) = record { linked = A.up; in_force = subst (λ (x : ℕ). Among (record { port = o.port; session = x }) (feasible_by false h i p)) (sym A.present) a } in
        let f = hop_falls t W X.wide (at_port i o.port) A.there E in
        let f0 : (s.machine k).fd < s.published_fd i = subst (λ (x : ℕ). (s.machine x).fd < s.published_fd i) A.far_router f.0 in
        let f1 : s.published_fd k < s.published_fd i = subst (λ (x : ℕ). s.published_fd x < s.published_fd i) A.far_router f.1 in
        let a = present_fd k in
        let b = published_fd k in
        let c = published_fd i in
        (omega (arith, f0, a, c), omega (arith, f1, b, c))

    -- and along one that is feasible now
    present_lower : (i k : ℕ) (o : NextHop) → Among o (feasible_by true h i p) → entry_leads w i (Via o.port o.session) ≡ Some k → (fd_by true p k < fd_by true p i) × (fd_by false p k < fd_by true p i)
    present_lower i k o a lead = by_router (slice_get w.routers i) refl a
      where
        by_router : (x : Option Router) → slice_get w.routers i ≡ x → Among o (option_map_or (feasible_hops p) x []) → (fd_by true p k < fd_by true p i) × (fd_by false p k < fd_by true p i)
        by_router None at g = absurd (None_not_Some g.1)
        by_router (Some r) at g =
            let Y : FeasibleHop p r o = feasible_hop p r o g in
            let A : At i o.port o.session k = hop_at i o.port o.session k lead in
            let machine : s.machine i ≡ machine_of r p = on_router-there (λ y. machine_of y p) (opening_machine None []) w.routers i r at in
            let seen : s.seen (at_port i o.port) ≡ session_at r.ports o.port = on_router-there (λ y. session_at y.ports o.port) 0 w.routers i r at in
            let low = Y.low in
            let same : reported_at (s.machine i) o.port ≡ reported_at (machine_of r p) o.port = ap (λ (m : Machine). reported_at m o.port) machine in
            let fd : (s.machine i).fd ≡ (machine_of r p).fd = ap (λ (m : Machine). m.fd) machine in
            let E : FeasibleEdge s (at_port i o.port) = record {
              linked = A.up;
              port_up = ap (λ (m : Machine). is_up_at m o.port) machine ∙ Y.up;
              present = seen ∙ sym Y.session_is ∙ sym A.present;
              below = omega (arith, low, same, fd);
            } in
            let f = feasible_falls t W X.wide (at_port i o.port) A.there E in
            let f0 : (s.machine k).fd < (s.machine i).fd = subst (λ (x : ℕ). (s.machine x).fd < (s.machine i).fd) A.far_router f.0 in
            let f1 : s.published_fd k < (s.machine i).fd = subst (λ (x : ℕ). s.published_fd x < (s.machine i).fd) A.far_router f.1 in
            let a = present_fd k in
            let b = published_fd k in
            let c = present_fd i in
            (omega (arith, f0, a, c), omega (arith, f1, b, c))

  -- along a feasible next hop both feasible distances of the far router are less
  hop_lower : (b c : Bool) (p : Prefix) (i k : ℕ) (o : NextHop) → Among o (feasible_by b h i p) → entry_leads w i (Via o.port o.session) ≡ Some k → fd_by c p k < fd_by b p i
  hop_lower true true p i k o a lead = (present_lower p i k o a lead).0
  hop_lower true false p i k o a lead = (present_lower p i k o a lead).1
  hop_lower false true p i k o a lead = (published_lower p i k o a lead).0
  hop_lower false false p i k o a lead = (published_lower p i k o a lead).1

  -- by entries packets get nearer
  abbrev by_entries : Improves rows (LeadsBy rows (entry_leads w)) fd_by
  by_entries = ways.improves n ss v valid runs

  -- wherever a row may lead they are less
  lower : (b c : Bool) (p : Prefix) (i k : ℕ) → MayLead b p i k → fd_by c p k < fd_by b p i
  lower b c p i k (inl e) = by_entries.falls b c p i k e
  lower b c p i k (inr (o, a, lead)) = hop_lower b c p i k o a lead

  -- so packets get nearer by these, too
  improves : Improves rows MayLead fd_by
  improves = record {
    in_order = by_entries.in_order;
    falls = lower;
    ahead = λ b c p i k m. ways.has n ss v valid runs c p k (let top = bounded p b i in let below = lower b c p i k m in omega (arith, top, below));
  }

  module _ (addr : ℕ) where
    -- where a packet goes on it is matched by a row that may lead there
    matches : (b : Bool) (i k : ℕ) → MayGoByFeasible h b addr i k → Matched rows MayLead fd_by improves addr b i k
    matches b i k M = record {
      prefix = M.prefix;
      entry = M.entry;
      matched = M.matched;
      leads_to = elim M.leads [ inl l ↦ inl (M.entry, match_is_row addr M.prefix M.entry (rows b i) (by_entries.in_order b i) M.matched, l) | inr o ↦ inr o ];
    }

    matched_way : (way : List ℕ) → IsWayBy (λ i k. (b : Bool) × MayGoByFeasible h b addr i k) way → IsWayBy (λ i k. (b : Bool) × Matched rows MayLead fd_by improves addr b i k) way
    matched_way = way_by (λ i k. (b : Bool) × MayGoByFeasible h b addr i k) (λ i k. (b : Bool) × Matched rows MayLead fd_by improves addr b i k) (λ i k m. (m.0, matches m.0 i k m.1))

    -- no packet circles
    none_circles : (way : List ℕ) → IsWayBy (λ i k. (b : Bool) × MayGoByFeasible h b addr i k) way → meets_twice way ≡ false
    none_circles way g = matched_once rows MayLead fd_by improves addr way (matched_way way g)

    -- no way has more routers than there are
    all_end : (i : ℕ) (ks : List ℕ) → i < length w.routers → IsWayBy (λ i k. (b : Bool) × MayGoByFeasible h b addr i k) (i ∷ ks) → length (i ∷ ks) ≤ length w.routers
    all_end i ks lt g = matched_few rows MayLead fd_by improves addr (length w.routers) (ways.is_there n ss v valid runs) i ks lt (matched_way (i ∷ ks) g)

-- in every history
pub always_no_feasible_circles : HoldsInEveryHistory NoFeasibleHopCircles
always_no_feasible_circles n ss v valid r addr way g = none_circles n ss v valid r addr way g

-- ways end, in every history
pub always_feasible_end : HoldsInEveryHistory FeasibleHopWaysEnd
always_feasible_end n ss v valid r addr = all_end n ss v valid r addr

-- where some next hops are among others, a packet that may go by the ones may go by the others
pub by_others : (hops hops' : ℕ → Prefix → List NextHop) (w : World) → ((i : ℕ) (p : Prefix) (o : NextHop) → Among o (hops i p) → Among o (hops' i p)) → (b : Bool) (addr i k : ℕ)
    → MayGoBy hops w b addr i k → MayGoBy hops' w b addr i k
by_others hops hops' w among b addr i k M = record {
  prefix = M.prefix;
  entry = M.entry;
  matched = M.matched;
  leads = elim M.leads [ inl l ↦ inl l | inr (o, a, l) ↦ inr (o, among i M.prefix o a, l) ];
}
