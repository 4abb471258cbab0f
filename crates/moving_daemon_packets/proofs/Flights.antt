-- A packet that is long on a link went when it left: the other end was in the session of its row then.
use Rattle.std.proofs.Common.{refl, sym, ap, subst, ◌∙◌, inl, inr, arith, ◌<◌, ◌≤◌, ◌≡◌, ◌≢◌, ◌⊎◌, ℕ, zero, suc, Bool, true, false, ◌&&◌, ◌==◌, if◌then◌else◌, is_none, eq-eqb, eqb-true, List, [], ◌∷◌, Some, None, slice_get, option_and_then}
use Rattle.no_packet_loops.proofs.Common.{option_map_or, false≢true, and_parts, and_from, Prefix, prefix_cmp, Via, Port, Router, Topology, LinkEnd, at_port, None_not_Some, session_at, next_hop, is_next_hop, router_publishing, router_releasing, changed_at}
use Rattle.network_model.proofs.Common.{cases_eq, find as row_of}
use Rattle.network_model.specs.World.{with_offer}
use Rattle.router_core.specs.Alone.{router_publishing_some}
use Rattle.single_router.specs.{declared.input.Input.Input, Inputs.told_fault, Inputs.router_after, Openings.made_router}
use Rattle.single_router.specs.declared.input.Input.TheVariants as input
use Rattle.daemon_laws.specs.{Processes.Processes, Packets.is_in_session, Packets.session_leads, Packets.lets_in}
use Rattle.daemon_laws.specs.Happenings.{Happening, Tells, Takes, Loses, Publishes, PublishesSome, Forgets, Releases, BeginsAnew, CanHappen, with_process, told_router, forgotten, after_happening, link_stays, MayRewire, Offers}
use Rattle.daemon_laws.proofs.Anew.{Anew, Here, Across, Away, anew_at}
use Rattle.daemon_laws.proofs.{Cases.by_take, Cases.by_release, Numbers.forgotten_ports, Steps.router_here, Steps.router_away, Walks.control_reached, Walks.row_reached, Walks.let_in}
use Rattle.daemon_laws.proofs.Rewiring.{Stays, stays_far, stays_at, same_at}
use Rattle.moving_daemon_packets.specs.Moving.{Moment, moment_next, moment_rewired, moment_after, now, HoldsAtEveryMoment, rows_shown, DaemonEvent, Goes, Does, Rewires}
use Rattle.moving_daemon_packets.specs.Flights.{Survives, IsOnLink, HopsAtOnce, UnmarkedHopsAtOnce}
use Rattle.moving_daemon_packets.proofs.Calm.{IsKept, kept_next, kept_rewired, kept}

-- ---- ports

-- whether the port with this number is up in the session
abbrev is_up_in : List Port → ℕ → ℕ → Bool
is_up_in ports q session = option_map_or (λ (x : Port). x.up && (x.session == session)) (slice_get ports q) false

-- where a link has come up, a port is up in a session in which it was, or in the one of that link
comes_up : (ports : List Port) (j s c q session : ℕ) → is_up_in (changed_at j (λ (x : Port). record { up = true; session = s; cost = c }) ports) q session ≡ true → (is_up_in ports q session ≡ true) ⊎ ((j ≡ q) × (s ≡ session))
comes_up [] j s c q session h = inl h
comes_up (x ∷ xs) zero s c zero session h = inr (refl, eqb-true s session h)
comes_up (x ∷ xs) zero s c (suc q) session h = inl h
comes_up (x ∷ xs) (suc j) s c zero session h = inl h
comes_up (x ∷ xs) (suc j) s c (suc q) session h = elim (comes_up xs j s c q session h) [
  | inl old ↦ inl old
  | inr new ↦ inr (ap suc new.0, new.1)
]

-- where one has gone down, in one in which it was
goes_down : (ports : List Port) (j s q session : ℕ) → is_up_in (changed_at j (λ (x : Port). record x { up = false; session = s }) ports) q session ≡ true → is_up_in ports q session ≡ true
goes_down [] j s q session h = h
goes_down (x ∷ xs) zero s zero session h = absurd (false≢true h)
goes_down (x ∷ xs) zero s (suc q) session h = h
goes_down (x ∷ xs) (suc j) s zero session h = h
goes_down (x ∷ xs) (suc j) s (suc q) session h = goes_down xs j s q session h

-- and where a cost has changed, too
costs_change : (ports : List Port) (j c q session : ℕ) → is_up_in (changed_at j (λ (x : Port). record x { session = session_at ports j; cost = c }) ports) q session ≡ true → is_up_in ports q session ≡ true
costs_change [] j c q session h = h
costs_change (x ∷ xs) zero c zero session h = h
costs_change (x ∷ xs) zero c (suc q) session h = h
costs_change (x ∷ xs) (suc j) c zero session h = h
costs_change (x ∷ xs) (suc j) c (suc q) session h = costs_change xs j c q session h

-- a router that is told something is in sessions in which it was, or its link came up
told_in : (i : Input) (r : Router) (q session : ℕ) → is_up_in (told_router i r).ports q session ≡ true → (is_up_in r.ports q session ≡ true) ⊎ ((c : ℕ) × (i ≡ input.Up q session c))
told_in i r q session = by_fault (is_none (told_fault i r))
  where
    by_input : (x : Input) → is_up_in (router_after x r).ports q session ≡ true → (is_up_in r.ports q session ≡ true) ⊎ ((c : ℕ) × (x ≡ input.Up q session c))
    by_input (input.Up j s c) h = elim (comes_up r.ports j s c q session h) [
      | inl old ↦ inl old
      | inr new ↦ inr (c, λ z. input.Up (new.0 z) (new.1 z) c)
    ]
    by_input (input.Down j) h = inl (goes_down r.ports j (session_at r.ports j) q session h)
    by_input (input.Cost j c) h = inl (costs_change r.ports j c q session h)
    by_input _ h = inl h

    by_fault : (b : Bool) → is_up_in (if b then router_after i r else r).ports q session ≡ true → (is_up_in r.ports q session ≡ true) ⊎ ((c : ℕ) × (i ≡ input.Up q session c))
    by_fault true h = by_input i h
    by_fault false h = inl h

-- ---- one happening

module _ (t : Topology) (w : Processes) (f : LinkEnd) (session : ℕ) where
  -- where one router is changed that keeps its ports, the router at an end is in the sessions that it was in
  changed_in : (j : ℕ) (g : Router → Router) → ((r : Router) → (g r).ports ≡ r.ports) → is_up_in (with_process j g w.routers f.router).ports f.port session ≡ true → is_in_session w f session ≡ true
  changed_in j g same h = sym (ap (λ (ports : List Port). is_up_in ports f.port session) (by_test (f.router == j))) ∙ h
    where
      by_test : (b : Bool) → (if b then g (w.routers f.router) else w.routers f.router).ports ≡ (w.routers f.router).ports
      by_test true = same (w.routers f.router)
      by_test false = refl

  -- what a router takes keeps them
  message_in : (q s : ℕ) (m : _) (r : Router) → (told_router (input.Message q s m) r).ports ≡ r.ports
  message_in q s m r = by_fault (is_none (told_fault (input.Message q s m) r))
    where
      by_fault : (b : Bool) → (if b then router_after (input.Message q s m) r else r).ports ≡ r.ports
      by_fault true = refl
      by_fault false = refl

  -- an end that is in a session was in it, or had not been in it yet, unless its process begins anew
  was_in : (h : Happening) → CanHappen w h → ((i : ℕ) (costs : _) (attachments : _) → h ≡ BeginsAnew i costs attachments → i ≢ f.router) → is_in_session (after_happening t w h) f session ≡ true
      → (is_in_session w f session ≡ true) ⊎ (w.last f < session)
  was_in (Tells i x) can stays h = elim (cases_eq f.router i) [
    | inl e ↦ by_told e (told_in x (w.routers i) f.port session (ap (λ (r : Router). is_up_in r.ports f.port session) (sym (ap (λ (k : ℕ). with_process i (told_router x) w.routers k) e ∙ router_here i (told_router x) w.routers)) ∙ h))
    | inr d ↦ inl (ap (λ (r : Router). is_up_in r.ports f.port session) (sym (router_away i (told_router x) w.routers f.router d)) ∙ h)
  ]
    where
      by_told : f.router ≡ i → (is_up_in (w.routers i).ports f.port session ≡ true) ⊎ ((c : ℕ) × (x ≡ input.Up f.port session c)) → (is_in_session w f session ≡ true) ⊎ (w.last f < session)
      by_told e (inl old) = inl (ap (λ (k : ℕ). is_up_in (w.routers k).ports f.port session) e ∙ old)
      by_told e (inr new) = inr (later e new.0 (subst (λ (y : Input). CanHappen w (Tells i y)) new.1 can))
        where
          later : f.router ≡ i → (c : ℕ) → CanHappen w (Tells i (input.Up f.port session c)) → w.last f < session
          later e c own = subst (λ (k : ℕ). w.last (at_port k f.port) < session) (sym e) own.0
  was_in (Takes e) can stays is = by_take t w (λ v. is_in_session v f session ≡ true → (is_in_session w f session ≡ true) ⊎ (w.last f < session)) (λ h. inl h) e
      (λ c at le h. inl (changed_in e.router (told_router (input.Message e.port c.session c.message)) (message_in e.port c.session c.message) h)) is
  was_in (Loses e) can stays h = inl h
  was_in (Publishes i) can stays h = inl (changed_in i router_publishing (λ r. refl) h)
  was_in (PublishesSome i n) can stays h = inl (changed_in i (router_publishing_some n) (λ r. refl) h)
  was_in (Forgets i p) can stays h = inl (changed_in i (forgotten p) (forgotten_ports p) h)
  was_in (Releases i) can stays is = by_release t w (λ v. is_in_session v f session ≡ true → (is_in_session w f session ≡ true) ⊎ (w.last f < session)) (λ h. inl h) i
      (λ x at h. inl (changed_in i router_releasing (λ r. refl) h)) is
  was_in (Offers i offer) can stays h = inl (changed_in i (with_offer offer) (λ r. refl) h)
  was_in (BeginsAnew i costs attachments) can stays h =
      inl (ap (λ (r : Router). is_up_in r.ports f.port session) (sym (router_away i (λ r. made_router costs attachments) w.routers f.router (λ e. stays i costs attachments refl (sym e)))) ∙ h)

-- ---- on the link

-- the end across has been in the session, or in a later one, also once this has happened
last_next : (m : Moment) (e : LinkEnd) (session : ℕ) (h : Happening) → (m.topology).valid e ≡ true → Survives e session m h → session ≤ (m.processes).last ((m.topology).far e) → session ≤ (after_happening m.topology m.processes h).last ((m.topology).far e)
last_next m e session (Tells i x) v S le = omega (arith, le)
last_next m e session (Takes d) v S le = by_take m.topology m.processes (λ v. session ≤ v.last ((m.topology).far e)) le d (λ c at past. le)
last_next m e session (Releases i) v S le = by_release m.topology m.processes (λ v. session ≤ v.last ((m.topology).far e)) le i (λ x at. le)
last_next m e session (BeginsAnew i costs attachments) v S le = by_place (anew_at m.topology i m.processes ((m.topology).far e))
  where
    by_place : Anew m.topology i m.processes ((m.topology).far e) → session ≤ (after_happening m.topology m.processes (BeginsAnew i costs attachments)).last ((m.topology).far e)
    by_place (Here g is) = absurd (S.0 (sym g))
    by_place (Across d g is) = (let own = S.1 (sym g ∙ ap (λ (x : LinkEnd). x.router) ((m.topology).far_far e v)) in omega (arith, is, own))
    by_place (Away d g is) = omega (arith, is, le)
last_next m e session _ v S le = le

-- a packet's process across begins anew in none of what happens
stays_there : (m : Moment) (e : LinkEnd) (session : ℕ) (h : Happening) → Survives e session m h → (i : ℕ) (costs : _) (attachments : _) → h ≡ BeginsAnew i costs attachments → i ≢ ((m.topology).far e).router
stays_there m e session h S i costs attachments is = (subst (Survives e session m) is S).0

-- a link that stays is as it was; for any prefix, since links have none
abbrev any : Prefix
any = record { addr = 0; len = 0 }

stays : (m : Moment) (K : IsKept m) (t : Topology) (e : LinkEnd) (R : MayRewire m.topology t m.processes) → link_stays m.topology t e ≡ true → Stays m.topology t any (m.fd_published any) m.processes (K any).kept.invariant (K any).kept.orderly R e
stays m K t e R on = stays_at m.topology t any (m.fd_published any) m.processes (K any).kept.invariant (K any).kept.orderly R e on

last_same : (m : Moment) (K : IsKept m) (t : Topology) (e : LinkEnd) (R : MayRewire m.topology t m.processes) → link_stays m.topology t e ≡ true → ((moment_rewired m t).processes).last (t.far e) ≡ (m.processes).last ((m.topology).far e)
last_same m K t e R on =
    let far = stays_far m.topology t any (m.fd_published any) m.processes (K any).kept.invariant (K any).kept.orderly R e on in
    let same = same_at m.topology t any (m.fd_published any) m.processes (K any).kept.invariant (K any).kept.orderly R (t.far e) far in
    same.last ∙ ap (m.processes).last (stays m K t e R on).far_is

-- the link is there, and leads where it led
record SameLink (m : Moment) (e : LinkEnd) (es : List DaemonEvent) : Type 0 where
  valid : (m.topology).valid e ≡ true
  far_is : ((moment_after m es).topology).far e ≡ (m.topology).far e

same_link : (m : Moment) → IsKept m → (e : LinkEnd) (session : ℕ) (es : List DaemonEvent) → IsOnLink e session m es → ((moment_after m es).topology).valid e ≡ true → SameLink m e es
same_link m K e session [] on v = record { valid = v; far_is = refl }
same_link m K e session (Goes k ∷ es) on v = absurd on
same_link m K e session (Does h ∷ es) on v = (let rest = same_link (moment_next m h) (kept_next m h K on.0) e session es on.2 v in record { valid = rest.valid; far_is = rest.far_is })
same_link m K e session (Rewires t ∷ es) on v =
    let rest = same_link (moment_rewired m t) (kept_rewired m t K on.0) e session es on.2 v in
    let S = stays m K t e on.0 on.1 in
    record { valid = S.was; far_is = rest.far_is ∙ S.far_is }

-- it was in the session when the packet left
was_there : (m : Moment) → IsKept m → (e : LinkEnd) (session : ℕ) (es : List DaemonEvent) → (m.topology).valid e ≡ true → session ≤ (m.processes).last ((m.topology).far e) → IsOnLink e session m es
    → is_in_session (moment_after m es).processes (((moment_after m es).topology).far e) session ≡ true → is_in_session m.processes ((m.topology).far e) session ≡ true
was_there m K e session [] v le on is = is
was_there m K e session (Goes k ∷ es) v le on is = absurd on
was_there m K e session (Does h ∷ es) v le on is =
    let then_is = was_there (moment_next m h) (kept_next m h K on.0) e session es v (last_next m e session h v on.1 le) on.2 is in
    elim (was_in m.topology m.processes ((m.topology).far e) session h on.0 (stays_there m e session h on.1) then_is) [
      | inl there ↦ there
      | inr lt ↦ absurd (omega (arith, lt, le))
    ]
was_there m K e session (Rewires t ∷ es) v le on is =
    let S = stays m K t e on.0 on.1 in
    let last_is = last_same m K t e on.0 on.1 in
    let then_is = was_there (moment_rewired m t) (kept_rewired m t K on.0) e session es S.is (omega (arith, last_is, le)) on.2 is in
    subst (λ (f : LinkEnd). is_in_session m.processes f session ≡ true) S.far_is then_is

-- the other end has been in that session, or in a later one, when the packet comes
last_along : (m : Moment) → IsKept m → (e : LinkEnd) (session : ℕ) (es : List DaemonEvent) → (m.topology).valid e ≡ true → session ≤ (m.processes).last ((m.topology).far e) → IsOnLink e session m es
    → session ≤ ((moment_after m es).processes).last (((moment_after m es).topology).far e)
last_along m K e session [] v le on = le
last_along m K e session (Goes k ∷ es) v le on = absurd on
last_along m K e session (Does h ∷ es) v le on = last_along (moment_next m h) (kept_next m h K on.0) e session es v (last_next m e session h v on.1 le) on.2
last_along m K e session (Rewires t ∷ es) v le on =
    let S = stays m K t e on.0 on.1 in
    let last_is = last_same m K t e on.0 on.1 in
    last_along (moment_rewired m t) (kept_rewired m t K on.0) e session es S.is (omega (arith, last_is, le)) on.2

kept_after : (m : Moment) → IsKept m → (e : LinkEnd) (session : ℕ) (es : List DaemonEvent) → IsOnLink e session m es → IsKept (moment_after m es)
kept_after m K e session [] on = K
kept_after m K e session (Goes k ∷ es) on = absurd on
kept_after m K e session (Does h ∷ es) on = kept_after (moment_next m h) (kept_next m h K on.0) e session es on.2
kept_after m K e session (Rewires t ∷ es) on = kept_after (moment_rewired m t) (kept_rewired m t K on.0) e session es on.2

-- no row is of a session that the other end has not been in
reached : (m : Moment) → IsKept m → (i q session : ℕ) (p : Prefix) (b : Bool) → row_of prefix_cmp p (rows_shown b m i) ≡ Some (Via q session) → (m.topology).valid (at_port i q) ≡ true → session ≤ (m.processes).last ((m.topology).far (at_port i q))
reached m K i q session p true row v = control_reached m.topology p (m.fd_published p) m.processes (K p).kept.invariant i q session row v
reached m K i q session p false row v = row_reached m.topology p (m.fd_published p) m.processes (K p).kept.invariant (K p).kept.orderly (at_port i q) v session
    (ap (λ o. is_next_hop q session o) (ap (option_and_then next_hop) row) ∙ and_from (q == q) (session == session) (eq-eqb q q refl) (eq-eqb session session refl))

-- so the row led there
at_once : (m : Moment) → IsKept m → HopsAtOnce m
at_once m K i k q session p b es row on leads = by_test (((moment_after m es).topology).valid (at_port i q) && is_in_session (moment_after m es).processes (((moment_after m es).topology).far (at_port i q)) session) refl leads
  where
    by_test : (c : Bool) → (((moment_after m es).topology).valid (at_port i q) && is_in_session (moment_after m es).processes (((moment_after m es).topology).far (at_port i q)) session) ≡ c
        → (if c then Some (((moment_after m es).topology).far (at_port i q)).router else None) ≡ Some k → session_leads m.topology m.processes i (Via q session) ≡ Some k
    by_test false is g = absurd (None_not_Some g)
    by_test true is g =
        let parts = and_parts (((moment_after m es).topology).valid (at_port i q)) (is_in_session (moment_after m es).processes (((moment_after m es).topology).far (at_port i q)) session) is in
        let L = same_link m K (at_port i q) session es on parts.0 in
        let there = was_there m K (at_port i q) session es L.valid (reached m K i q session p b row L.valid) on parts.1 in
        ap (λ c. if c then Some ((m.topology).far (at_port i q)).router else None) (and_from ((m.topology).valid (at_port i q)) (is_in_session m.processes ((m.topology).far (at_port i q)) session) L.valid there)
        ∙ ap (λ (f : LinkEnd). Some f.router) (sym L.far_is) ∙ g

-- a router that lets in what tells no session is in that of the row then, if no message of a later one came before
in_order : (m : Moment) → IsKept m → UnmarkedHopsAtOnce m
in_order m K i k q session p b es row on before leads = by_test (n.valid (at_port i q)) refl (lets_in v (n.far (at_port i q))) refl leads
  where
    n : Topology
    n = (moment_after m es).topology

    v : Processes
    v = (moment_after m es).processes

    by_test : (c : Bool) → n.valid (at_port i q) ≡ c → (d : Bool) → lets_in v (n.far (at_port i q)) ≡ d → (if c && d then Some (n.far (at_port i q)).router else None) ≡ Some k → session_leads m.topology m.processes i (Via q session) ≡ Some k
    by_test true a true h g =
        let L = same_link m K (at_port i q) session es on a in
        let then_le = last_along m K (at_port i q) session es L.valid (reached m K i q session p b row L.valid) on in
        let A = kept_after m K (at_port i q) session es on p in
        let is = (let_in n p ((moment_after m es).fd_published p) v A.kept.invariant A.kept.orderly (n.far (at_port i q)) h).last_is in
        let same : v.heard (n.far (at_port i q)) ≡ session = omega (arith, then_le, is, before) in
        at_once m K i k q session p b es row on
        (ap (λ c. if c then Some (n.far (at_port i q)).router else None) (and_from (n.valid (at_port i q)) (is_in_session v (n.far (at_port i q)) session) a (ap (is_in_session v (n.far (at_port i q))) (sym same) ∙ h)) ∙ g)
    by_test _ a _ h g = absurd (None_not_Some g)

pub always_at_once : HoldsAtEveryMoment HopsAtOnce
always_at_once t w M = at_once (now t w M) (kept t w M)

pub always_in_order : HoldsAtEveryMoment UnmarkedHopsAtOnce
always_in_order t w M = in_order (now t w M) (kept t w M)
