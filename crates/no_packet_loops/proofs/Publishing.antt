-- A router that publishes does so in the view.
use Rattle.std.proofs.Common.{refl, sym, ap, subst, ◌∙◌, arith, take_all, take-append-drop, ◌≡◌, ℕ, Bool, true, false, ◌==◌, if◌then◌else◌, List, [], ◌++◌, length, Option, Some, None, slice_get, option_map, option_and_then, unwrap_or, eq-eqb, ne_eqb}
use Rattle.no_packet_loops.proofs.Common.{option_map_or, drop_all, Prefix, prefix_cmp, Machine, opening_machine, port_count, port_successor, Entry, Port, Router, World, Network, machine_of, neighbours, next, router_publishing, entry_of, session_at, chosen_rows, Some_injective, None_not_Some, NextHop, slice_get-changed_at, Invariant, find-map, sorted-map, LinkEnd, State, at_port, next_hop, kept, ripe_of, unripe_of, next_hop_at, view, find as row_of, is_sorted, Publish}
use Rattle.loop_freedom.specs.Network.{Publish as NetPublish, Publishes, next_hop_of}
use Rattle.no_packet_loops.proofs.{Wiring.IsWired, Places.topology}
use Rattle.no_packet_loops.proofs.View.{kept-append, on_router-there, on_router-miss, on_router-same}
use Rattle.no_packet_loops.proofs.Kept.{RouterKept, WorldKept, StepKept, with_router}

-- the next hop of a machine's entry is its successor, where that is a port, in the session seen there
next_hop_entry : (ports : List Port) (m : Machine) (seen : ℕ → ℕ) → ((q : ℕ) → seen q ≡ session_at ports q) → next_hop (entry_of ports m) ≡ next_hop_of seen (port_successor m)
next_hop_entry ports m seen same = by_successor m.successor
  where
    by_port : (b : Bool) (q : ℕ) → next_hop (if b then Entry.Local else Entry.Via q (session_at ports q)) ≡ next_hop_of seen (if b then None else Some q)
    by_port true q = refl
    by_port false q = ap (λ (n : ℕ). Some (record { port = q; session = n })) (sym (same q))

    by_successor : (s : Option ℕ) → next_hop (option_map_or (λ q. if q == port_count m then Entry.Local else Entry.Via q (session_at ports q)) s Entry.Unreachable) ≡ next_hop_of seen (option_and_then (λ q. if q == port_count m then None else Some q) s)
    by_successor None = refl
    by_successor (Some q) = by_port (q == port_count m) q

-- the row that a router has chosen is the entry of its machine, if it has one
pub control_row : (p : Prefix) (r : Router) → (r.table).control ≡ chosen_rows r.ports r.machines → row_of prefix_cmp p (r.table).control ≡ option_map (λ m. entry_of r.ports m) (row_of prefix_cmp p r.machines)
control_row p r is = ap (row_of prefix_cmp p) is ∙ find-map prefix_cmp (λ (m : Machine). entry_of r.ports m) p r.machines

-- the next hop of the row that a router has chosen is its machine's successor, where that is a port, in the session seen there
pub control_hop : (p : Prefix) (r : Router) (seen : ℕ → ℕ) → (r.table).control ≡ chosen_rows r.ports r.machines → ((q : ℕ) → seen q ≡ session_at r.ports q)
    → option_and_then next_hop (row_of prefix_cmp p (r.table).control) ≡ next_hop_of seen (port_successor (machine_of r p))
control_hop p r seen is same =
    ap (option_and_then next_hop) (control_row p r is)
    ∙ by_row (row_of prefix_cmp p r.machines)
  where
    by_row : (o : Option Machine) → option_and_then next_hop (option_map (λ m. entry_of r.ports m) o) ≡ next_hop_of seen (port_successor (unwrap_or o (opening_machine None (neighbours r.ports))))
    by_row None = refl
    by_row (Some m) = next_hop_entry r.ports m seen same

-- the chosen rows stay in the order of their prefixes
pub control_sorted : (r : Router) → (r.table).control ≡ chosen_rows r.ports r.machines → is_sorted prefix_cmp r.machines ≡ true → is_sorted prefix_cmp (r.table).control ≡ true
control_sorted r is sorted = ap (is_sorted prefix_cmp) is ∙ sorted-map prefix_cmp (λ (m : Machine). entry_of r.ports m) r.machines ∙ sorted

-- a port that is the next hop of a machine is its successor, in the session seen there
pub hop_chosen : (m : Machine) (seen : ℕ → ℕ) (q session : ℕ) → next_hop_of seen (port_successor m) ≡ Some (record { port = q; session = session }) → (port_successor m ≡ Some q) × (seen q ≡ session)
hop_chosen m seen q session h = by_successor (port_successor m) refl h
  where
    by_successor : (o : Option ℕ) → port_successor m ≡ o → next_hop_of seen o ≡ Some (record { port = q; session = session }) → (port_successor m ≡ Some q) × (seen q ≡ session)
    by_successor None is g = absurd (None_not_Some g)
    by_successor (Some j) is g =
        let e = Some_injective g in
        let port : j ≡ q = ap (λ (o : NextHop). o.port) e in
        (is ∙ ap Some port, ap seen (sym port) ∙ ap (λ (o : NextHop). o.session) e)

module _ (n : Network) (N : IsWired n) (p : Prefix) (w : World) (pfd : ℕ → ℕ) (K : WorldKept n p w) (I : Invariant (topology n N) (view n p w pfd)) (i : ℕ) (r : Router) (router_at : slice_get w.routers i ≡ Some r) where
  -- the view before
  abbrev old : State
  old = view n p w pfd

  -- the world after router i published
  abbrev v : World
  v = next w (Publish i)

  -- the feasible distances as published then: that of router i is its present one
  abbrev pfd' : ℕ → ℕ
  pfd' j = if j == i then (old.machine i).fd else pfd j

  -- the view after
  abbrev new : State
  new = view n p v pfd'

  -- the router before keeps what a router keeps
  R : RouterKept n p i r
  R = K.routers_kept i r router_at

  -- router i is then the router that published
  new_at : (j : ℕ) → j ≡ i → slice_get v.routers j ≡ Some (router_publishing r)
  new_at j e = ap (slice_get v.routers) e ∙ slice_get-changed_at router_publishing i w.routers ∙ ap (option_map router_publishing) router_at

  old_at : (j : ℕ) → j ≡ i → slice_get w.routers j ≡ Some r
  old_at j e = ap (slice_get w.routers) e ∙ router_at

  -- the view shows the machine of router i
  machine_was : old.machine i ≡ machine_of r p
  machine_was = on_router-there (λ y. machine_of y p) (opening_machine None []) w.routers i r router_at

  -- the router that published keeps what a router keeps
  router_kept : RouterKept n p i (router_publishing r)
  router_kept = record {
    ripe_within = omega arith;
    sorted = R.sorted;
    published_sorted = control_sorted r R.control_is R.sorted;
    control_is = R.control_is;
    port_count = R.port_count;
    machine_ports = R.machine_ports;
    placed = R.placed;
  }

  -- the published next hop is the successor, in the session seen there
  published_is : new.published i ≡ next_hop_of (λ q. old.seen (at_port i q)) (port_successor (old.machine i))
  published_is =
      on_router-there (next_hop_at p) None v.routers i (router_publishing r) (new_at i refl)
      ∙ control_hop p r (λ q. old.seen (at_port i q)) R.control_is (λ q. on_router-there (λ y. session_at y.ports q) 0 w.routers i r router_at)
      ∙ ap (λ (m : Machine). next_hop_of (λ q. old.seen (at_port i q)) (port_successor m)) (sym machine_was)

  -- all that the router held may be released
  ripe_is : (e : LinkEnd) → e.router ≡ i → new.ripe e ≡ old.ripe e ++ old.unripe e
  ripe_is e h =
      let held = (r.gate).held in
      on_router-there (λ y. kept p e.port (ripe_of y)) [] v.routers e.router (router_publishing r) (new_at e.router h)
      ∙ ap (kept p e.port) (take_all (length held) held (omega arith) ∙ sym (take-append-drop (r.gate).ripe held))
      ∙ kept-append p e.port (ripe_of r) (unripe_of r)
      ∙ (λ z. sym (on_router-there (λ y. kept p e.port (ripe_of y)) [] w.routers e.router r (old_at e.router h)) z ++ sym (on_router-there (λ y. kept p e.port (unripe_of y)) [] w.routers e.router r (old_at e.router h)) z)

  -- nothing is left that may not be released
  unripe_is : (e : LinkEnd) → e.router ≡ i → new.unripe e ≡ []
  unripe_is e h =
      on_router-there (λ y. kept p e.port (unripe_of y)) [] v.routers e.router (router_publishing r) (new_at e.router h)
      ∙ ap (kept p e.port) (drop_all (length (r.gate).held) (r.gate).held (omega arith))

  -- a router that publishes does so in the view
  pub net : NetPublish (topology n N) old new
  net = record {
    j = i;
    published_at = published_is;
    published_fd_at = rw (eq-eqb i i refl) refl;
    published_elsewhere = λ j apart. on_router-miss (next_hop_at p) None w.routers router_publishing i j apart;
    published_fd_elsewhere = λ j apart. rw (ne_eqb j i apart) refl;
    ripe_at = ripe_is;
    unripe_at = unripe_is;
    ripe_elsewhere = λ e apart. on_router-miss (λ y. kept p e.port (ripe_of y)) [] w.routers router_publishing i e.router apart;
    unripe_elsewhere = λ e apart. on_router-miss (λ y. kept p e.port (unripe_of y)) [] w.routers router_publishing i e.router apart;
    machines = record {
      machine_same = λ j. on_router-same (λ y. machine_of y p) (opening_machine None []) w.routers router_publishing i j (λ y there. refl);
      seen_same = λ e. on_router-same (λ y. session_at y.ports e.port) 0 w.routers router_publishing i e.router (λ y there. refl);
    };
    inboxes = record { inbox_same = λ e. refl };
    links = record { up_same = λ e. refl; session_same = λ e. refl };
    costs = record { cost_same = λ e. refl };
  }

  -- the step Publish is one of the view, and keeps what a world keeps
  pub publishes : StepKept n N p w pfd (next w (Publish i)) pfd'
  publishes = record {
    kept = with_router n p w i router_publishing (λ y there. (subst (λ (z : Router). RouterKept n p i (router_publishing z)) (Some_injective (sym router_at ∙ there)) router_kept, refl)) K;
    step = Publishes net;
  }
