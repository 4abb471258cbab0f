-- Along the rows of routers in processes of their own the feasible distances fall, so no packet meets a router twice.
use Rattle.std.proofs.Common.{refl, sym, ap, subst, ◌∙◌, arith, inl, inr, ◌≡◌, ◌⊎◌, ℕ, ◌<◌, ◌≤◌, max, Bool, true, false, ◌&&◌, ◌==◌, if◌then◌else◌, List, ◌∷◌, Option, Some, None, slice_get, option_and_then, eq-eqb}
use Rattle.no_packet_loops.proofs.Common.{and_parts, and_from, Prefix, prefix_cmp, longest_match, is_port, port_successor_from, Entry, Via, Port, machine_of, session_at, Some_injective, None_not_Some, is_up_at, is_next_hop, Topology, meets_twice, LinkEnd, at_port, next_hop, next_hop_at, FallsAlong, falls_distinct}
use Rattle.network_model.proofs.Common.{cases_lt, both_ways, find as row_of}
use Rattle.no_packet_loops.proofs.{Walks.match_is_row, Publishing.control_hop, Publishing.control_sorted, Publishing.hop_chosen}
use Rattle.daemon_laws.specs.Processes.{Processes}
use Rattle.daemon_laws.specs.Packets.{is_in_session, session_leads, lets_in, unmarked_leads, rows_in_force, rows_in_mixture, IsPacketWalkByRows}
use Rattle.daemon_laws.proofs.{Seen.is_port_in, Telling.none_up, Telling.in_session_is, Publishing.successor_there, Moving.in_session, Orderly.Orderly}
use Rattle.daemon_laws.proofs.Invariant.{may_or_left, router_at, session_of, Invariant}

module _ (t : Topology) (p : Prefix) (pfd : ℕ → ℕ) (w : Processes) (I : Invariant t p pfd w) where
  -- the entry of the row that a router published for the prefix
  abbrev pub published_entry : ℕ → Option Entry
  published_entry i = row_of prefix_cmp p ((w.routers i).table).published

  -- the entry of the row that it has chosen
  abbrev pub control_entry : ℕ → Option Entry
  control_entry i = row_of prefix_cmp p ((w.routers i).table).control

  -- a router's height: the greater of its feasible distance and its published one
  abbrev height : ℕ → ℕ
  height i = max (machine_of (w.routers i) p).fd (pfd i)

  -- ---- where an entry leads

  -- the entry of router i is Via a port, and leads to router k, which is in the session of the entry
  pub record Leads (i : ℕ) (entry : Entry) (k : ℕ) : Type 0 where
    port : ℕ
    session : ℕ
    is_via : entry ≡ Via port session
    valid : t.valid (at_port i port) ≡ true
    there : is_port_in p (router_at w (t.far (at_port i port))) (t.far (at_port i port)).port session ≡ true
    far_router : (t.far (at_port i port)).router ≡ k

  -- a router whose port is up in the session is in it
  pub in_it : (e : LinkEnd) (session : ℕ) → is_in_session w e session ≡ true → is_port_in p (router_at w e) e.port session ≡ true
  in_it e session h = sym (in_session_is p w e (I.keeps e.router) session) ∙ h

  -- the port of an end is there, and in the session in which it was last
  pub record Open (e : LinkEnd) : Type 0 where
    pub port : Port
    pub at : slice_get (router_at w e).ports e.port ≡ Some port
    pub in_own : is_in_session w e (session_of w e) ≡ true

  -- so it is where its machine has it up
  pub opened : (e : LinkEnd) → is_up_at (machine_of (router_at w e) p) e.port ≡ true → Open e
  opened e u = by_port (slice_get (router_at w e).ports e.port) refl
    where
      by_port : (o : Option Port) → slice_get (router_at w e).ports e.port ≡ o → Open e
      by_port None at = absurd (both_ways (is_up_at (machine_of (router_at w e) p) e.port) (none_up p (router_at w e) (I.keeps e.router) e.port at) u)
      by_port (Some x) at = record {
        port = x;
        at = at;
        in_own = in_session_is p w e (I.keeps e.router) (session_of w e) ∙ and_from (is_up_at (machine_of (router_at w e) p) e.port) (session_of w e == session_of w e) u (eq-eqb (session_of w e) (session_of w e) refl);
      }

  -- an entry that leads to router k is such an entry
  pub leads : (i : ℕ) (entry : Entry) (k : ℕ) → session_leads t w i entry ≡ Some k → Leads i entry k
  leads i (Via q session) k h = by_test (t.valid (at_port i q) && is_in_session w (t.far (at_port i q)) session) refl h
    where
      by_test : (b : Bool) → (t.valid (at_port i q) && is_in_session w (t.far (at_port i q)) session) ≡ b → (if b then Some (t.far (at_port i q)).router else None) ≡ Some k → Leads i (Via q session) k
      by_test false is g = absurd (None_not_Some g)
      by_test true is g =
          let parts = and_parts (t.valid (at_port i q)) (is_in_session w (t.far (at_port i q)) session) is in
          record {
            port = q;
            session = session;
            is_via = refl;
            valid = parts.0;
            there = in_it (t.far (at_port i q)) session parts.1;
            far_router = Some_injective g;
          }
  leads i _ k h = absurd (None_not_Some h)

  -- ---- distances

  -- along a published row both feasible distances fall, whether its own router is in the session of the row still or has left it
  pub published_both : (i : ℕ) (entry : Entry) (k : ℕ) → published_entry i ≡ Some entry → Leads i entry k → ((machine_of (w.routers k) p).fd < pfd i) × (pfd k < pfd i)
  published_both i entry k row L =
      let e = at_port i L.port in
      let hop : next_hop_at p (w.routers i) ≡ Some (record { port = L.port; session = L.session }) = ap (option_and_then next_hop) (row ∙ ap Some L.is_via) in
      let shown : is_next_hop L.port L.session (next_hop_at p (w.routers i)) ≡ true = ap (λ o. is_next_hop L.port L.session o) hop ∙ and_from (L.port == L.port) (L.session == L.session) (eq-eqb L.port L.port refl) (eq-eqb L.session L.session refl) in
      subst (λ (x : ℕ). ((machine_of (w.routers x) p).fd < pfd i) × (pfd x < pfd i)) L.far_router
      (elim (may_or_left p L.session w e) [
        | inl may ↦ (I.links e L.valid L.session may (inl L.there)).published_edge_falls shown
        | inr left ↦ (I.alone e L.valid L.session left (inl L.there)).published_edge_falls shown
      ])

  published_falls : (i : ℕ) (entry : Entry) (k : ℕ) → published_entry i ≡ Some entry → Leads i entry k → height k < height i
  published_falls i entry k row L = let h = published_both i entry k row L in omega (arith, h.0, h.1)

  -- port q is the successor of router i, which is in the session there
  record ChosenAt (i q session : ℕ) : Type 0 where
    up : is_up_at (machine_of (w.routers i) p) q ≡ true
    seen : session_at (w.routers i).ports q ≡ session
    current : is_port_in p (w.routers i) q session ≡ true
    chosen : (is_port_in p (w.routers i) q session && is_port q (machine_of (w.routers i) p).successor) ≡ true

  -- so it is where the router has chosen that row
  chosen_at : (i q session : ℕ) → control_entry i ≡ Some (Via q session) → ChosenAt i q session
  chosen_at i q session row =
      let r = w.routers i in
      let m = machine_of r p in
      let H = hop_chosen m (λ j. session_at r.ports j) q session (sym (control_hop p r (λ j. session_at r.ports j) (I.keeps i).control_is (λ j. refl)) ∙ ap (option_and_then next_hop) row) in
      let s : m.successor ≡ Some q = port_successor_from m q H.0 in
      let up : is_up_at m q ≡ true = (I.sound i).successor_up q s (successor_there m (I.sound i) q H.0) in
      let cur : is_port_in p r q session ≡ true = and_from (is_up_at m q) (session_at r.ports q == session) up (eq-eqb (session_at r.ports q) session H.1) in
      record { up = up; seen = H.1; current = cur; chosen = and_from (is_port_in p r q session) (is_port q m.successor) cur (ap (is_port q) s ∙ eq-eqb q q refl) }

  -- no chosen row is of a session that the router across has not been in
  pub control_reached : (i q session : ℕ) → control_entry i ≡ Some (Via q session) → t.valid (at_port i q) ≡ true → session ≤ w.last (t.far (at_port i q))
  control_reached i q session row v = elim (cases_lt (w.last (t.far (at_port i q))) session) [
    | inr le ↦ le
    | inl lt ↦
        let f = t.far (at_port i q) in
        let C = chosen_at i q session row in
        let there : is_port_in p (router_at w f) f.port session ≡ true = (I.links (at_port i q) v session (inl C.current) (inr lt)).chosen_current C.chosen in
        absurd (let a = in_session p (router_at w f) f.port session there in let l = I.last_is f in omega (arith, lt, a, l))
  ]

  -- feasible distances fall along one, too
  pub control_both : (i : ℕ) (entry : Entry) (k : ℕ) → control_entry i ≡ Some entry → Leads i entry k → ((machine_of (w.routers k) p).fd < (machine_of (w.routers i) p).fd) × (pfd k < (machine_of (w.routers i) p).fd)
  control_both i entry k row L =
      let C = chosen_at i L.port L.session (row ∙ ap Some L.is_via) in
      subst (λ (x : ℕ). ((machine_of (w.routers x) p).fd < (machine_of (w.routers i) p).fd) × (pfd x < (machine_of (w.routers i) p).fd)) L.far_router
      ((I.links (at_port i L.port) L.valid L.session (inl C.current) (inl L.there)).control_edge_falls C.chosen)

  control_falls : (i : ℕ) (entry : Entry) (k : ℕ) → control_entry i ≡ Some entry → Leads i entry k → height k < height i
  control_falls i entry k row L = let h = control_both i entry k row L in omega (arith, h.0, h.1)

  -- ---- walks

  -- the published or the chosen row of the prefix at router i leads to router k
  record MayGo (i k : ℕ) : Type 0 where
    entry : Entry
    is_row : (published_entry i ≡ Some entry) ⊎ (control_entry i ≡ Some entry)
    goes : session_leads t w i entry ≡ Some k

  -- the height falls wherever a packet may go
  falls : (i k : ℕ) → MayGo i k → height k < height i
  falls i k M = elim M.is_row [
    | inl row ↦ published_falls i M.entry k row (leads i M.entry k M.goes)
    | inr row ↦ control_falls i M.entry k row (leads i M.entry k M.goes)
  ]

  -- a packet's way by rows that are published or chosen, where entries lead as given: the height falls along it
  packet_walk : (entry_goes : ℕ → Entry → Option ℕ) (rows : ℕ → List (Prefix × Entry))
      → ((i : ℕ) (addr : ℕ) (entry : Entry) → longest_match addr (rows i) ≡ Some (p, entry) → (published_entry i ≡ Some entry) ⊎ (control_entry i ≡ Some entry))
      → ((i k : ℕ) (entry : Entry) → (published_entry i ≡ Some entry) ⊎ (control_entry i ≡ Some entry) → entry_goes i entry ≡ Some k → session_leads t w i entry ≡ Some k)
      → (addr : ℕ) (walk : List ℕ) → IsPacketWalkByRows entry_goes rows addr p walk → FallsAlong height walk
  packet_walk entry_goes rows is goes addr (i ∷ k ∷ ks) h =
      let row = is i addr (h.0).entry (h.0).matched in
      (falls i k (record { entry = (h.0).entry; is_row = row; goes = goes i k (h.0).entry row (h.0).leads }), packet_walk entry_goes rows is goes addr (k ∷ ks) h.1)
  packet_walk entry_goes rows is goes addr _ h = tt

  -- a match among published rows is the row of its prefix
  match_published : (i addr : ℕ) (entry : Entry) → longest_match addr ((w.routers i).table).published ≡ Some (p, entry) → published_entry i ≡ Some entry
  match_published i addr entry g = match_is_row addr p entry ((w.routers i).table).published (I.keeps i).published_sorted g

  -- so is one among chosen rows
  match_control : (i addr : ℕ) (entry : Entry) → longest_match addr ((w.routers i).table).control ≡ Some (p, entry) → control_entry i ≡ Some entry
  match_control i addr entry g = match_is_row addr p entry ((w.routers i).table).control
      (control_sorted (w.routers i) (I.keeps i).control_is (I.keeps i).sorted) g

  -- a match in a mixture is a published or a chosen row
  match_mixed : (by_control : ℕ → Bool) (i addr : ℕ) (entry : Entry) → longest_match addr (rows_in_mixture by_control w i) ≡ Some (p, entry) → (published_entry i ≡ Some entry) ⊎ (control_entry i ≡ Some entry)
  match_mixed by_control i addr entry g = by_table (by_control i) g
    where
      by_table : (b : Bool) → longest_match addr (if b then ((w.routers i).table).control else ((w.routers i).table).published) ≡ Some (p, entry) → (published_entry i ≡ Some entry) ⊎ (control_entry i ≡ Some entry)
      by_table true g = inr (match_control i addr entry g)
      by_table false g = inl (match_published i addr entry g)

  -- by published rows no packet meets a router twice
  pub published_free : (addr : ℕ) (walk : List ℕ) → IsPacketWalkByRows (session_leads t w) (rows_in_force w) addr p walk → meets_twice walk ≡ false
  published_free addr walk h = falls_distinct height walk (packet_walk (session_leads t w) (rows_in_force w) (λ i a entry g. inl (match_published i a entry g)) (λ i k entry row g. g) addr walk h)

  -- nor in a mixture of published and chosen rows
  pub mixture_free : (by_control : ℕ → Bool) (addr : ℕ) (walk : List ℕ) → IsPacketWalkByRows (session_leads t w) (rows_in_mixture by_control w) addr p walk → meets_twice walk ≡ false
  mixture_free by_control addr walk h = falls_distinct height walk (packet_walk (session_leads t w) (rows_in_mixture by_control w) (match_mixed by_control) (λ i k entry row g. g) addr walk h)

  -- ---- where packets carry no session

  module _ (O : Orderly t p w) where
    -- no published row is of a session that the router across has not been in
    pub row_reached : (e : LinkEnd) → t.valid e ≡ true → (n : ℕ) → is_next_hop e.port n (next_hop_at p (router_at w e)) ≡ true → n ≤ w.last (t.far e)
    row_reached e v n shown = elim (cases_lt (w.last (t.far e)) n) [
      | inr le ↦ le
      | inl lt ↦
          let there : is_port_in p (router_at w (t.far e)) (t.far e).port n ≡ true = elim (may_or_left p n w e) [
            | inl may ↦ ((I.links e v n may (inr lt)).shown_current shown).1
            | inr left ↦ (I.alone e v n left (inr lt)).shown_current shown
          ] in
          absurd (let s = in_session p (router_at w (t.far e)) (t.far e).port n there in let l = I.last_is (t.far e) in omega (arith, lt, s, l))
    ]

    -- the router across lets in what comes in the session that it is in, which is the last of its end
    pub record LetsIn (e : LinkEnd) : Type 0 where
      pub here : is_port_in p (router_at w e) e.port (w.heard e) ≡ true
      pub last_is : w.last e ≡ w.heard e

    -- so it is of each end that lets in
    pub let_in : (e : LinkEnd) → lets_in w e ≡ true → LetsIn e
    let_in e h =
        let on : is_port_in p (router_at w e) e.port (w.heard e) ≡ true = in_it e (w.heard e) h in
        let up : is_up_at (machine_of (router_at w e) p) e.port ≡ true = (and_parts (is_up_at (machine_of (router_at w e) p) e.port) (session_of w e == w.heard e) on).0 in
        let s : session_of w e ≡ w.heard e = in_session p (router_at w e) e.port (w.heard e) on in
        record { here = on; last_is = (let a = O.up_last e up in let b = I.last_is e in omega (arith, a, b, s)) }

    -- a published row by whose port packets are let in is of the session that both are in
    published_session : (i q session : ℕ) → published_entry i ≡ Some (Via q session) → t.valid (at_port i q) ≡ true → lets_in w (t.far (at_port i q)) ≡ true → session ≡ w.heard (t.far (at_port i q))
    published_session i q session row v h =
        let e = at_port i q in
        let hop : next_hop_at p (w.routers i) ≡ Some (record { port = q; session = session }) = ap (option_and_then next_hop) row in
        let shown : is_next_hop q session (next_hop_at p (w.routers i)) ≡ true = ap (λ o. is_next_hop q session o) hop ∙ and_from (q == q) (session == session) (eq-eqb q q refl) (eq-eqb session session refl) in
        let below = O.row_heard e v session shown in
        let above = row_reached e v session shown in
        let last = (let_in (t.far e) h).last_is in
        omega (arith, below, above, last)

    -- so is a chosen one
    control_session : (i q session : ℕ) → control_entry i ≡ Some (Via q session) → t.valid (at_port i q) ≡ true → lets_in w (t.far (at_port i q)) ≡ true → session ≡ w.heard (t.far (at_port i q))
    control_session i q session row v h =
        let e = at_port i q in
        let f = t.far e in
        let C = chosen_at i q session row in
        let last_here = O.up_last e C.up in
        let heard_here = O.heard_past e v in
        let last_there = (let_in f h).last_is in
        let reached = control_reached i q session row v in
        let seen = C.seen in
        omega (arith, last_here, heard_here, last_there, reached, seen)

    -- where a packet is let in, the row leads in its session
    pub unmarked : (i k : ℕ) (entry : Entry) → (published_entry i ≡ Some entry) ⊎ (control_entry i ≡ Some entry) → unmarked_leads t w i entry ≡ Some k → session_leads t w i entry ≡ Some k
    unmarked i k (Via q session) row g = by_test (t.valid (at_port i q)) refl (lets_in w (t.far (at_port i q))) refl g
      where
        by_test : (b : Bool) → t.valid (at_port i q) ≡ b → (d : Bool) → lets_in w (t.far (at_port i q)) ≡ d → (if b && d then Some (t.far (at_port i q)).router else None) ≡ Some k → session_leads t w i (Via q session) ≡ Some k
        by_test true v true h g =
            let same : session ≡ w.heard (t.far (at_port i q)) = elim row [ inl x ↦ published_session i q session x v h | inr x ↦ control_session i q session x v h ] in
            ap (λ b. if b then Some (t.far (at_port i q)).router else None)
            (and_from (t.valid (at_port i q)) (is_in_session w (t.far (at_port i q)) session) v (ap (is_in_session w (t.far (at_port i q))) same ∙ h))
            ∙ g
        by_test _ v _ h g = absurd (None_not_Some g)
    unmarked i k _ row g = absurd (None_not_Some g)

    -- by published rows no packet meets a router twice
    pub unmarked_published_free : (addr : ℕ) (walk : List ℕ) → IsPacketWalkByRows (unmarked_leads t w) (rows_in_force w) addr p walk → meets_twice walk ≡ false
    unmarked_published_free addr walk h = falls_distinct height walk (packet_walk (unmarked_leads t w) (rows_in_force w) (λ i a entry g. inl (match_published i a entry g)) unmarked addr walk h)

    -- nor in a mixture
    pub unmarked_mixture_free : (by_control : ℕ → Bool) (addr : ℕ) (walk : List ℕ) → IsPacketWalkByRows (unmarked_leads t w) (rows_in_mixture by_control w) addr p walk → meets_twice walk ≡ false
    unmarked_mixture_free by_control addr walk h = falls_distinct height walk (packet_walk (unmarked_leads t w) (rows_in_mixture by_control w) (match_mixed by_control) unmarked addr walk h)
