-- A router may show another neighbour than its published successor as its next hop, if that reported less than the published
-- feasible distance: what every state keeps is kept.
use Rattle.std.proofs.Common.{sym, ◌∙◌, subst, arith, inl, inr, ◌≡◌, ◌⊎◌, ℕ, ◌+◌, ◌<◌, ◌≤◌, Bool, true, ◌==◌, Option, Some, eqb-true, eq-eqb}
use Rattle.network_model.proofs.Common.{cases_Bool, and_parts, and_from, Reply, infinity, LinkEnd, State, at_port}
use Rattle.network_model.specs.declared.route.NextHop.{NextHop}
use Rattle.machine_laws.specs.Laws.{is_up_at, reported_at}
use Rattle.loop_freedom.specs.Network.{Topology}
use Rattle.loop_freedom.specs.Facts.{count, End, pipe, is_next_hop, end_at}
use Rattle.loop_freedom.proofs.{Lists.count-append, Link.EndInvariant, Notices.lawful_seen, Invariant.Invariant}
use Rattle.many_ways.specs.Network.{IsFeasible}

-- the end, with another answer to whether it is the next hop
abbrev pub reshown : Bool → End → End
reshown b x = record x { shown = b }

-- along an end whose neighbour reported less than a distance, which is at most infinity, both feasible distances of that one are less
pub below_both : (x y : End) (n : ℕ) → n ≤ infinity → EndInvariant y x → x.current ≡ true → x.reported < n → (y.current ≡ true) × (y.fd < n) × (y.pfd < n)
below_both x y n top g on low = (
  elim (cases_Bool y.current) [
    | inl c ↦ c
    | inr c ↦ absurd (let far = g.unheard c on in omega (arith, far, low, top))
  ],
  (let a = g.feasible_below_kept on in omega (arith, a, low)),
  (let a = g.published_below_kept on in omega (arith, a, low)),
)

-- what is kept between two ends is kept if the one shows the other as its next hop, where that reported less than the published feasible distance
pub reshows : (x y : End) (b d : Bool) → EndInvariant x y → EndInvariant y x → (b ≡ true → (x.shown ≡ true) ⊎ ((x.current ≡ true) × (x.reported < x.pfd))) → EndInvariant (reshown b x) (reshown d y)
reshows x y b d h g f = record {
  nothing_sent = h.nothing_sent;
  unheard = h.unheard;
  chosen_current = h.chosen_current;
  shown_current = λ e. elim (f e) [ inl s ↦ h.shown_current s | inr k ↦ (k.0, (below_both x y x.pfd h.pfd_bounded g k.0 k.1).0) ];
  pfd_bounded = h.pfd_bounded;
  feasible_below_sent = h.feasible_below_sent;
  feasible_below_kept = h.feasible_below_kept;
  published_below_sent = h.published_below_sent;
  published_below_kept = h.published_below_kept;
  control_edge_falls = h.control_edge_falls;
  published_edge_falls = λ e. elim (f e) [ inl s ↦ h.published_edge_falls s | inr k ↦ (let r = below_both x y x.pfd h.pfd_bounded g k.0 k.1 in (r.1, r.2)) ];
  awaited_once = h.awaited_once;
  computation_below_sent = h.computation_below_sent;
  computation_below_kept = h.computation_below_kept;
  control_edge_waits = h.control_edge_waits;
  published_edge_waits = λ a e le. elim (f e) [
    | inl s ↦ h.published_edge_waits a s le
    | inr k ↦
        let c : count Reply (pipe x) ≡ count Reply x.out + count Reply x.kept = count-append Reply x.out x.kept in
        let v = h.computation_below_kept a k.0 (omega (arith, le, c)) in
        let l = k.1 in
        omega (arith, v, l)
  ];
}

-- the state, with these next hops as those published
abbrev pub with_hops : (ℕ → Option NextHop) → State → State
with_hops c s = record s { published = c }

-- router i shows its published successor as its next hop, or one that is feasible
abbrev pub MayShow : State → ℕ → Option NextHop → Type 0
MayShow s i o = (o ≡ s.published i) ⊎ ((h : NextHop) × (o ≡ Some h) × IsFeasible s i h)

module _ (t : Topology) (s : State) (c : ℕ → Option NextHop) (I : Invariant t s) (C : (i : ℕ) → MayShow s i (c i)) where
  -- one that is shown at a port is of that port and session
  is_at : (e : LinkEnd) (n : ℕ) (h : NextHop) → c e.router ≡ Some h → is_next_hop e.port n (c e.router) ≡ true → (h.port ≡ e.port) × (h.session ≡ n)
  is_at e n h is at =
      let both = and_parts (h.port == e.port) (h.session == n) (rw is at at) in
      (eqb-true h.port e.port both.0, eqb-true h.session n both.1)

  -- the end is as before, but for the next hop that is shown
  shows : (e : LinkEnd) → is_next_hop e.port (s.session e) (c e.router) ≡ true → ((end_at t s e).shown ≡ true) ⊎ (((end_at t s e).current ≡ true) × ((end_at t s e).reported < (end_at t s e).pfd))
  shows e at = elim (C e.router) [
    | inl same ↦ inl (rw same at at)
    | inr k ↦
        let F = k.2 in
        let w = is_at e (s.session e) k.0 k.1 at in
        let port : (k.0).port ≡ e.port = w.0 in
        let up : is_up_at (s.machine e.router) e.port ≡ true = subst (λ (q : ℕ). is_up_at (s.machine e.router) q ≡ true) port F.port_up in
        let seen : s.seen e ≡ s.session e = sym (subst (λ (q : ℕ). (k.0).session ≡ s.seen (at_port e.router q)) port F.present) ∙ w.1 in
        let low : reported_at (s.machine e.router) e.port < s.published_fd e.router = subst (λ (q : ℕ). reported_at (s.machine e.router) q < s.published_fd e.router) port F.below in
        inr (and_from (is_up_at (s.machine e.router) e.port) (s.seen e == s.session e) up (eq-eqb (s.seen e) (s.session e) seen), low)
  ]

  -- what every state keeps is kept by the state with these next hops
  pub shown_keeps : Invariant t (with_hops c s)
  shown_keeps = record {
    sound = I.sound;
    pfd_bounded = I.pfd_bounded;
    there = I.there;
    up_far = I.up_far;
    session_far = I.session_far;
    cost_positive = I.cost_positive;
    lawful = I.lawful;
    ripe_lawful = I.ripe_lawful;
    unripe_lawful = I.unripe_lawful;
    next_hop_old = λ e v n at. elim (C e.router) [
      | inl same ↦ I.next_hop_old e v n (rw same at at)
      | inr k ↦
          let F = k.2 in
          let w = is_at e n k.0 k.1 at in
          let port : (k.0).port ≡ e.port = w.0 in
          let seen : (k.0).session ≡ s.seen e = subst (λ (q : ℕ). (k.0).session ≡ s.seen (at_port e.router q)) port F.present in
          let le : s.seen e ≤ s.session e = lawful_seen (is_up_at (s.machine e.router) e.port) (s.seen e) (s.up e) (s.session e) (s.inbox e) (I.lawful e v) in
          let is = w.1 in
          omega (arith, seen, le, is)
    ];
    links = λ e v u.
        let back = subst (λ (z : LinkEnd). EndInvariant (end_at t s (t.far e)) (end_at t s z)) (t.far_far e v) (I.links (t.far e) (t.far_valid e v) (I.up_far e v ∙ u)) in
        reshows (end_at t s e) (end_at t s (t.far e)) (is_next_hop e.port (s.session e) (c e.router)) (is_next_hop (t.far e).port (s.session (t.far e)) (c (t.far e).router)) (I.links e v u) back (shows e);
    answers = λ e v u. record { answered = (I.answers e v u).answered };
  }
