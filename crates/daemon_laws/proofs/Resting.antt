-- Where routers in processes of their own are at rest, each has its best row.
use Rattle.std.proofs.Common.{refl, sym, ap, subst, ◌∙◌, inl, arith, ◌≡◌, ℕ, ◌+◌, ◌<◌, ◌≤◌, Bool, true, false, ◌==◌, if◌then◌else◌, List, [], ◌∷◌, ◌++◌, Option, Some, None, slice_get, eq-eqb}
use Rattle.no_packet_loops.proofs.Common.{option_map_or, and_parts, and_from, false≢true, Prefix, test_at, Machine, Neighbour, Local, Via, Port, machine_of, is_up_at, Topology, IsEdgeWalk, walk_map, LinkEnd, State, next_hop_at, most_routers, reported_at, pipe, messages, live, infinity}
use Rattle.least_cost.specs.Quiet.{LeadsHome, Follows, IsQuiet, IsRouted, IsOptimal, walk_end, edges_cost}
use Rattle.least_cost.proofs.{Replay.cost_of, Kept.Kept as NetKept, AtQuiet.optimal_here}
use Rattle.daemon_laws.specs.{Processes.Processes, Packets.is_in_session}
use Rattle.daemon_laws.specs.Rest.{IsUpIn, cost_from, IsSessionWay, way_cost, IsWayHome, entry_in_force, IsSessionChain, ProcessHasRoute, ProcessHasBestRow, AreAtRest}
use Rattle.daemon_laws.proofs.{Seen.carried, Seen.arriving_in, Seen.is_port_in, Told.Told, Told.listens, Told.last_value, Moving.in_session, Items.cost_is, Walks.opened, Walks.in_it}
use Rattle.no_packet_loops.proofs.Taking.{port_within}
use Rattle.daemon_laws.proofs.Invariant.{router_at, session_of, end_from, MayBe, Invariant}
use Rattle.daemon_laws.proofs.Quiet.{still, ripe_quiet, unripe_quiet, hop_quiet, local_quiet, lost_quiet, attachment_is, via_row}

module _ (t : Topology) (p : Prefix) (pfd : ℕ → ℕ) (w : Processes) (I : Invariant t p pfd w) (n : ℕ) (few : n ≤ most_routers) (A : AreAtRest t n w) where
  -- the machine of the prefix at each router
  abbrev pub machine : ℕ → Machine
  machine i = machine_of (w.routers i) p

  -- whether the machine at an end of a link has it up
  abbrev pub up : LinkEnd → Bool
  up e = is_up_at (machine e.router) e.port

  -- the cost of a link from an end, as the machine there has it
  abbrev pub cost : LinkEnd → ℕ
  cost e = cost_of (slice_get (machine e.router).ports e.port)

  -- the processes at rest, as the prefix sees them
  abbrev pub s : State
  s = record {
    machine = machine;
    seen = session_of w;
    up = up;
    session = session_of w;
    cost = cost;
    inbox = λ e. [];
    ripe = λ e. [];
    unripe = λ e. [];
    published = λ i. next_hop_at p (w.routers i);
    published_fd = pfd;
  }

  -- ---- links that are up

  -- a link that one end has up is up in its session
  pub up_in : (e : LinkEnd) → up e ≡ true → IsUpIn t w e (session_of w e)
  up_in e u = A.agree e (session_of w e) (opened t p pfd w I e u).in_own

  -- an end in a session is up, and was last in that session
  record InIt (e : LinkEnd) (session : ℕ) : Type 0 where
    is_up : up e ≡ true
    last : session_of w e ≡ session

  in_last : (e : LinkEnd) (session : ℕ) → is_in_session w e session ≡ true → InIt e session
  in_last e session h =
      let on : is_port_in p (router_at w e) e.port session ≡ true = in_it t p pfd w I e session h in
      record { is_up = (and_parts (up e) (session_of w e == session) on).0; last = in_session p (router_at w e) e.port session on }

  -- the other end is up too
  pub up_far : (e : LinkEnd) → up e ≡ true → up (t.far e) ≡ true
  up_far e u = (in_last (t.far e) (session_of w e) (up_in e u).far).is_up

  session_far : (e : LinkEnd) → up e ≡ true → session_of w (t.far e) ≡ session_of w e
  session_far e u = (in_last (t.far e) (session_of w e) (up_in e u).far).last

  -- the links that are up
  abbrev pub t' : Topology
  t' = record { far = t.far; valid = up; far_valid = up_far; far_far = λ e u. t.far_far e (up_in e u).valid }

  -- the router at an end that is up is one of the first n
  pub placed : (e : LinkEnd) → up e ≡ true → e.router < n
  placed e u = A.placed e (up_in e u).valid

  -- an end that is up is in its session
  is_in_now : (e : LinkEnd) → up e ≡ true → is_port_in p (router_at w e) e.port (session_of w e) ≡ true
  is_in_now e u = and_from (up e) (session_of w e == session_of w e) u (eq-eqb (session_of w e) (session_of w e) refl)

  -- nothing is on its way from it
  pipe_none : (e : LinkEnd) → up e ≡ true → (m : ℕ) → pipe (end_from t p m pfd w e) ≡ []
  pipe_none e u m =
      let v = (up_in e u).valid in
      let quiet = A.quiet e.router (placed e u) in
      (λ z. (messages (arriving_in m (carried p (A.nothing_comes (t.far e) (session_of w (t.far e)) (up_in (t.far e) (up_far e u)) z))) ++ live m (ripe_quiet p (router_at w e) (I.keeps e.router) quiet e.port z)) ++ live m (unripe_quiet p (router_at w e) (I.keeps e.router) quiet e.port z))

  -- the far end of a link that is up was told the distance
  pub told_now : (e : LinkEnd) → up e ≡ true → reported_at (machine (t.far e).router) (t.far e).port ≡ (machine e.router).rd
  told_now e u =
      let f = t.far e in
      let v = (up_in e u).valid in
      let k = session_of w e in
      let here : is_port_in p (router_at w e) e.port k ≡ true = is_in_now e u in
      let there : is_port_in p (router_at w f) f.port k ≡ true = in_it t p pfd w I f k (up_in e u).far in
      let back : IsUpIn t w f k = record { valid = t.far_valid e v; near = (up_in e u).far; far = subst (λ (d : LinkEnd). is_in_session w d k ≡ true) (sym (t.far_far e v)) (up_in e u).near } in
      let T : Told (end_from t p k pfd w f) (end_from t p k pfd w e) =
      subst (λ (d : LinkEnd). Told (end_from t p k pfd w f) (end_from t p k pfd w d)) (t.far_far e v)
      (I.told f (t.far_valid e v) k (A.nothing_lost f k back, subst (λ (d : LinkEnd). w.lost d k ≡ false) (sym (t.far_far e v)) (A.nothing_lost e k (up_in e u))) (inl there) (subst (λ (d : LinkEnd). MayBe p k w d) (sym (t.far_far e v)) (inl here))) in
      sym (ap (λ b. if b then reported_at (machine f.router) f.port else infinity) there)
      ∙ sym (ap (last_value (listens (end_from t p k pfd w f))) (pipe_none e u k))
      ∙ T.last_is here

  pub kept_state : NetKept t' s
  kept_state = record {
    sound = I.sound;
    there = λ e u. port_within (machine e.router).ports e.port u;
    up_valid = λ e u. u;
    lines = λ e u. record { positive = positive e u; fits = tt; end_up = refl; end_session = refl; end_cost = λ v. refl };
    ends_up = λ e u. up_far e u ∙ sym u;
    ends_session = session_far;
    recent = λ e u. tt;
    sight = λ e u v. told_now e u ∙ sym (ap (λ b. if b then (machine e.router).rd else infinity) (eq-eqb (session_of w e) (session_of w e) refl));
  }
    where
      positive : (e : LinkEnd) → up e ≡ true → 0 < cost e
      positive e u = by_port (slice_get (machine e.router).ports e.port) refl u
        where
          by_port : (o : Option Neighbour) → slice_get (machine e.router).ports e.port ≡ o → test_at (λ (x : Neighbour). x.up) o ≡ true → 0 < cost_of o
          by_port None at h = absurd (false≢true h)
          by_port (Some x) at h = ((I.sound e.router).ports_sound e.port x at).costs

  pub quiet_state : IsQuiet t' n s
  quiet_state = record {
    passive = λ i l. (still p (w.routers i) (I.keeps i) (A.quiet i l)).passive;
    inbox_empty = λ e u. refl;
    ripe_empty = λ e u. refl;
    unripe_empty = λ e u. refl;
    published_is = λ i l. hop_quiet p (w.routers i) (I.keeps i) (A.quiet i l);
  }

  -- its costs have 16 bits
  pub cheap_now : (e : LinkEnd) → up e ≡ true → cost e ≤ 65535
  cheap_now e u = by_port (slice_get (machine e.router).ports e.port) refl
    where
      by_port : (o : Option Neighbour) → slice_get (machine e.router).ports e.port ≡ o → cost_of o ≤ 65535
      by_port None at = omega arith
      by_port (Some x) at = (I.cheap e.router).of_ports e.port x at

  -- each router has a least way in it, or none
  optimal : (i : ℕ) → i < n → IsOptimal t' n s i
  optimal i l = optimal_here t' n s kept_state quiet_state few placed cheap_now (λ j c lt is. (I.cheap j).at_home c is) i l

  -- ---- ways

  -- a cost is that which the router was told
  pub cost_now : (e : LinkEnd) → up e ≡ true → cost e ≡ cost_from w e
  cost_now e u =
      let O = opened t p pfd w I e u in
      cost_is p (router_at w e) (I.keeps e.router) e.port O.port O.at ∙ sym (ap (λ o. option_map_or (λ (x : Port). x.cost) o 0) O.at)

  -- a way is a walk of links that are up, to the same router
  to_walk : (i : ℕ) (es : List LinkEnd) (k : ℕ) → IsSessionWay t w i es k → IsEdgeWalk t' (λ e. up e ≡ true) i es × (walk_end t' i es ≡ k)
  to_walk i [] k h = (tt, h)
  to_walk i (e ∷ es) k (session, from, is, rest) =
      let u = (in_last e session is.near).is_up in
      let W = to_walk (t.far e).router es k rest in
      ((from, u, u, W.0), W.1)

  to_cost : (i : ℕ) (es : List LinkEnd) (k : ℕ) → IsSessionWay t w i es k → edges_cost s es ≡ way_cost w es
  to_cost i [] k h = refl
  to_cost i (e ∷ es) k (session, from, is, rest) =
      let u = (in_last e session is.near).is_up in
      let one = cost_now e u in
      let others = to_cost (t.far e).router es k rest in
      (λ z. one z + others z)

  -- a walk of links that are up is a way
  from_walk : (i : ℕ) (es : List LinkEnd) → IsEdgeWalk t' (λ e. up e ≡ true) i es → IsSessionWay t w i es (walk_end t' i es)
  from_walk i [] h = refl
  from_walk i (e ∷ es) h = (session_of w e, h.0, up_in e h.1, from_walk (t.far e).router es h.3)

  from_cost : (i : ℕ) (es : List LinkEnd) → IsEdgeWalk t' (λ e. up e ≡ true) i es → way_cost w es ≡ edges_cost s es
  from_cost i [] h = refl
  from_cost i (e ∷ es) h =
      let one = cost_now e h.1 in
      let others = from_cost (t.far e).router es h.3 in
      (λ z. sym one z + others z)

  -- a way home is a walk home
  leads_home : (i : ℕ) (es : List LinkEnd) (k c : ℕ) → IsWayHome t w p i es k c → LeadsHome t' s i es
  leads_home i es k c h =
      let W = to_walk i es k h.way in
      record { live = W.0; cost = h.attachment; home = ap (λ (j : ℕ). (machine j).attachment) W.1 ∙ sym (attachment_is p (w.routers k)) ∙ h.attached }

  -- a walk along published successors to a Local row is a chain of rows
  from_chain : (i : ℕ) (es : List LinkEnd) → IsEdgeWalk t' (Follows s) i es → entry_in_force w (walk_end t' i es) p ≡ Some Local → IsSessionChain t w p i es (walk_end t' i es)
  from_chain i [] h local = (refl, local)
  from_chain i (e ∷ es) h local = (
    session_of w e,
    h.0,
    up_in e h.1,
    subst (λ (j : ℕ). entry_in_force w j p ≡ Some (Via e.port (session_of w e))) h.0 (via_row e.port (session_of w e) (entry_in_force w e.router p) ((h.2).sends).chosen),
    from_chain (t.far e).router es h.3 local,
  )

  -- the last router of a walk is one of the first n
  end_placed : (i : ℕ) (es : List LinkEnd) → i < n → IsEdgeWalk t' (λ e. up e ≡ true) i es → walk_end t' i es < n
  end_placed i [] l h = l
  end_placed i (e ∷ es) l h = end_placed (t.far e).router es (placed (t.far e) (up_far e h.1)) h.3

  -- a router that is routed in the state has a route
  routed : (i : ℕ) → i < n → IsRouted t' n s i → ProcessHasRoute t w p i
  unfolding leads_home
  routed i l Q =
      let o : ℕ = walk_end t' i Q.chain in
      let walk : IsEdgeWalk t' (λ e. up e ≡ true) i Q.chain = walk_map t' (Follows s) (λ e. up e ≡ true) (λ e f. (f.sends).linked) i Q.chain Q.follows in
      let lo : o < n = end_placed i Q.chain l walk in
      let same : way_cost w Q.chain ≡ edges_cost s Q.chain = from_cost i Q.chain walk in
      record {
        home = o;
        chain = Q.chain;
        leads = from_chain i Q.chain Q.follows (local_quiet p (w.routers o) (I.keeps o) (A.quiet o lo) (Q.reaches).chosen);
        least = record {
          way = record {
            way = from_walk i Q.chain walk;
            attachment = Q.cost;
            attached = attachment_is p (w.routers o) ∙ (Q.reaches).attached;
            cost_is = (let e = Q.cost_is in omega (arith, same, e));
          };
          least = λ others k c h. (
              let under : (machine i).rd ≤ edges_cost s others + h.attachment = Q.least_cost others (leads_home i others k c h) in
              let equal : edges_cost s others ≡ way_cost w others = to_cost i others k h.way in
              let all : way_cost w others + h.attachment ≡ c = h.cost_is in
              omega (arith, under, equal, all)
              );
        };
      }

  -- where no way leads home, no walk does
  no_way : (i : ℕ) → ((es : List LinkEnd) (k c : ℕ) → IsWayHome t w p i es k c → ⊥) → (es : List LinkEnd) → LeadsHome t' s i es → ⊥
  no_way i none es h =
      none es (walk_end t' i es) (way_cost w es + h.cost) (record {
        way = from_walk i es h.live;
        attachment = h.cost;
        attached = attachment_is p (w.routers (walk_end t' i es)) ∙ h.home;
        cost_is = refl;
      })

  -- each router has its best row
  pub best : (i : ℕ) → i < n → ProcessHasBestRow t w p i
  best i l = record {
    connected = λ es k c h. routed i l ((optimal i l).connected es (leads_home i es k c h));
    cut_off = λ none. lost_quiet p (w.routers i) (I.keeps i) (A.quiet i l) ((optimal i l).disconnected (no_way i none)).no_successor;
  }
