-- Along every link over which a packet may go the greater of a router's two feasible distances falls, so no walk meets a router twice.
use Rattle.std.proofs.Common.{refl, sym, ◌∙◌, ap, subst, arith, inl, inr, ◌≡◌, ℕ, ◌<◌, ◌≤◌, true, ◌==◌, if◌then◌else◌, Option, Some, eq-eqb, ne_eqb}
use Rattle.network_model.proofs.Common.{cases_eq, and_from, LinkEnd, State, at_port}
use Rattle.network_model.specs.declared.route.NextHop.{NextHop}
use Rattle.machine_laws.specs.Laws.{is_up_at}
use Rattle.loop_freedom.specs.{Network.Topology, Facts.is_current, Facts.is_next_hop, Facts.end_at}
use Rattle.loop_freedom.proofs.{Link.EndInvariant, Invariant.Invariant}
use Rattle.loop_freedom.proofs.Walks.{height, published_lower, published_falls, control_falls, walk_distinct}
use Rattle.many_ways.specs.Network.{Wide, Among, HopEdge, FeasibleEdge, MayForward, ByRow, ByHop, ByChosen, ByFeasible, ManyHopsLoopFree}
use Rattle.many_ways.proofs.{Shown.below_both, Shown.with_hops, Kept.Pick, Kept.WideInvariant, Kept.wide_run_keeps}

module _ (t : Topology) (w : Wide) (J : WideInvariant t w) where
  abbrev s : State
  s = w.state

  -- what every state keeps is kept
  kept : Invariant t s
  kept = J s.published (λ i. inl refl)

  -- router j shows this next hop, and each other router shows its row
  abbrev one_hop : ℕ → NextHop → ℕ → Option NextHop
  one_hop j h i = if i == j then Some h else s.published i

  one_picked : (j : ℕ) (h : NextHop) → Among h (w.hops j) → (i : ℕ) → Pick w i (one_hop j h i)
  one_picked j h a i = elim (cases_eq i j) [
    | inl p ↦ inr (h, rw (eq-eqb i j p) refl, subst (λ (k : ℕ). Among h (w.hops k)) (sym p) a)
    | inr d ↦ inl (rw (ne_eqb i j d) refl)
  ]

  -- none is of a session later than its link's
  pub hop_old : (j : ℕ) (h : NextHop) → Among h (w.hops j) → t.valid (at_port j h.port) ≡ true → h.session ≤ s.session (at_port j h.port)
  hop_old j h a v = (J (one_hop j h) (one_picked j h a)).next_hop_old (at_port j h.port) v h.session
      (ap (λ (o : Option NextHop). is_next_hop h.port h.session o) (ap (λ b. if b then Some h else s.published j) (eq-eqb j j refl)) ∙ and_from (h.port == h.port) (h.session == h.session) (eq-eqb h.port h.port refl) (eq-eqb h.session h.session refl))

  -- along a next hop in force both feasible distances of the far router are below the published one of this router
  pub hop_falls : (e : LinkEnd) → t.valid e ≡ true → HopEdge w e → ((s.machine (t.far e).router).fd < s.published_fd e.router) × (s.published_fd (t.far e).router < s.published_fd e.router)
  hop_falls e v E =
      let h : NextHop = record { port = e.port; session = s.session e } in
      published_lower t (with_hops (one_hop e.router h) s) (J (one_hop e.router h) (one_picked e.router h E.in_force)) e v
      (record { linked = E.linked; chosen = ap (λ b. if b then Some h else s.published e.router) (eq-eqb e.router e.router refl) })

  -- along one that is feasible now they are below the present one
  pub feasible_falls : (e : LinkEnd) → t.valid e ≡ true → FeasibleEdge s e → ((s.machine (t.far e).router).fd < (s.machine e.router).fd) × (s.published_fd (t.far e).router < (s.machine e.router).fd)
  feasible_falls e v E =
      let m = s.machine e.router in
      let cur : is_current m e.port (s.seen e) (s.session e) ≡ true = and_from (is_up_at m e.port) (s.seen e == s.session e) E.port_up (eq-eqb (s.seen e) (s.session e) E.present) in
      let back = subst (λ (z : LinkEnd). EndInvariant (end_at t s (t.far e)) (end_at t s z)) (t.far_far e v) (kept.links (t.far e) (t.far_valid e v) (kept.up_far e v ∙ E.linked)) in
      let a = (kept.sound e.router).fd_below in
      let b = (kept.sound e.router).rd_bounded in
      let r = below_both (end_at t s e) (end_at t s (t.far e)) m.fd (omega (arith, a, b)) back cur E.below in
      (r.1, r.2)

  -- along each of these the height falls
  falls : (e : LinkEnd) → t.valid e ≡ true → MayForward w e → height s (t.far e).router < height s e.router
  falls e v (ByRow E) = published_falls t s kept e v E
  falls e v (ByHop E) = (let h = hop_falls e v E in omega (arith, h.0, h.1))
  falls e v (ByChosen E) = control_falls t s kept e v E
  falls e v (ByFeasible E) = (let h = feasible_falls e v E in omega (arith, h.0, h.1))

-- no walk meets a router twice, whichever next hop each router takes, in every state of every run
pub always_loop_free : ManyHopsLoopFree
always_loop_free t first last O r = walk_distinct t (MayForward last) (height last.state) (falls t last (wide_run_keeps t first last O r))
