-- Every run of a network is one of the view with the next hops that were feasible when each router published last.
use Rattle.std.proofs.Common.{refl, sym, ap, subst, ◌∙◌, arith, inl, inr, ◌≡◌, ◌⊎◌, ℕ, nat_lt, List, [], ◌∷◌, map, Option, Some, None, slice_get, slice_set}
use Rattle.no_packet_loops.proofs.Common.{option_map_or, cases_eq, slice_get_within, Prefix, Machine, opening_machine, infinity, machine_of, Router, World, Network, opening, Lawful, next, router_publishing, Runs, History, history, history_from, published_after, with_step, with_steps, session_at, slice_get-changed_at, is_up_at, NextHop, at_port, view, fd_in, machine_laws, Start, Then, opening_keeps, steps_keep, Step, LinkUp, LinkDown, SetCost, Deliver, Publish, Release, Attach, Detach, reported_at, Opening, and_left}
use Rattle.no_packet_loops.proofs.{WorldLaws.next-shape, Wiring.IsWired, Places.topology, View.on_router-there, Opened.first_fd, Opened.opening_kept, Opened.opening_view}
use Rattle.no_packet_loops.proofs.Runs.{Reached, Stepped, stepped, published_count, fd_is, set_beside, set_here}
use Rattle.many_ways.specs.Network.{Wide, Among, IsFeasible, StaysInForce}
use Rattle.many_ways.specs.Packets.{is_low, hop_over, feasible_hops}
use Rattle.many_ways.proofs.{Kept.WideInvariant, Kept.wide_opening_keeps, Kept.wide_step_keeps, Feasible.none_passing, Feasible.feasible_hop, Ripening.ripens_nothing}

-- the next hops that were feasible when the routers published last
abbrev pub feasible_of : Prefix → List Router → ℕ → List NextHop
feasible_of p rs i = option_map_or (feasible_hops p) (slice_get rs i) []

-- the view of a world, with these in force
abbrev pub wide_view : Network → Prefix → World → List Router → (ℕ → ℕ) → Wide
wide_view n p w rs pfd = record { state = view n p w pfd; hops = feasible_of p rs }

module _ (n : Network) (N : IsWired n) (p : Prefix) where
  -- a router that publishes has in force what is feasible then
  publishes_hops : (w : World) (pfd pfd' : ℕ → ℕ) (i : ℕ) (r : Router) (h : NextHop) → slice_get w.routers i ≡ Some r → pfd' i ≡ (machine_of r p).fd → Among h (feasible_hops p r) → IsFeasible (view n p (next w (Publish i)) pfd') i h
  publishes_hops w pfd pfd' i r h at fd a =
      let W = feasible_hop p r h a in
      let there : slice_get (next w (Publish i)).routers i ≡ Some (router_publishing r) = slice_get-changed_at router_publishing i w.routers ∙ rw at refl in
      let machine : (view n p (next w (Publish i)) pfd').machine i ≡ machine_of r p = on_router-there (λ y. machine_of y p) (opening_machine None []) (next w (Publish i)).routers i (router_publishing r) there in
      let seen : (view n p (next w (Publish i)) pfd').seen (at_port i h.port) ≡ session_at r.ports h.port = on_router-there (λ y. session_at y.ports h.port) 0 (next w (Publish i)).routers i (router_publishing r) there in
      let low = W.low in
      let same : reported_at ((view n p (next w (Publish i)) pfd').machine i) h.port ≡ reported_at (machine_of r p) h.port = ap (λ (m : Machine). reported_at m h.port) machine in
      record {
        port_up = ap (λ (m : Machine). is_up_at m h.port) machine ∙ W.up;
        present = W.session_is ∙ sym seen;
        below = omega (arith, low, same, fd);
      }

  -- what a step leaves in force
  in_force : (w : World) (rs : List Router) (R : Reached n N p w rs) (s : Step) (L : Lawful w s) → (i : ℕ) → (s ≡ Publish i → ⊥) → fd_in (published_after w rs s) p i ≡ fd_in rs p i
      → StaysInForce (view n p w R.published_fd) (view n p (next w s) (stepped n N p w R.published_fd R.kept R.inv s L).fd_then) i
  in_force w rs R s L i d same = record {
    distance = (stepped n N p w R.published_fd R.kept R.inv s L).fds_then rs R.fds_are R.count i ∙ same ∙ sym (R.fds_are i);
    ripens_nothing = λ e r. ripens_nothing p w s L (λ j x at. (R.kept.routers_kept j x at).ripe_within) e (λ k. d (k ∙ ap (λ (j : ℕ). Publish j) r));
  }

  -- what is in force after a step is feasible, or it was there and stays in force
  hops_then : (w : World) (rs : List Router) (R : Reached n N p w rs) (s : Step) (L : Lawful w s) (i : ℕ) (h : NextHop) → Among h (feasible_of p (published_after w rs s) i)
      → IsFeasible (view n p (next w s) (stepped n N p w R.published_fd R.kept R.inv s L).fd_then) i h
      ⊎ (Among h (feasible_of p rs i) × StaysInForce (view n p w R.published_fd) (view n p (next w s) (stepped n N p w R.published_fd R.kept R.inv s L).fd_then) i)
  hops_then w rs R (LinkUp l) L i h a = inr (a, in_force w rs R (LinkUp l) L i (λ e. cc) refl)
  hops_then w rs R (LinkDown l) L i h a = inr (a, in_force w rs R (LinkDown l) L i (λ e. cc) refl)
  hops_then w rs R (SetCost j q c) L i h a = inr (a, in_force w rs R (SetCost j q c) L i (λ e. cc) refl)
  hops_then w rs R (Deliver j q) L i h a = inr (a, in_force w rs R (Deliver j q) L i (λ e. cc) refl)
  hops_then w rs R (Publish j) L i h a =
      elim (cases_eq i j) [
        | inl e ↦
            let at : slice_get w.routers i ≡ Some L.0 = ap (slice_get w.routers) e ∙ L.1 in
            let lt = slice_get_within w.routers j L.0 L.1 in
            let c = R.count in
            let set : slice_get (published_after w rs (Publish j)) i ≡ Some L.0 = ap (slice_get (published_after w rs (Publish j))) e ∙ ap (λ xs. slice_get xs j) is_set ∙ set_here rs j L.0 (omega (arith, lt, c)) in
            let fd : S.fd_then i ≡ (machine_of L.0 p).fd = S.fds_then rs R.fds_are R.count i ∙ ap (λ (o : Option Router). option_map_or (λ (y : Router). (machine_of y p).fd) o infinity) set in
            let feasible : IsFeasible (view n p (next w (Publish i)) S.fd_then) i h = publishes_hops w R.published_fd S.fd_then i L.0 h at fd (subst (Among h) (ap (λ (o : Option Router). option_map_or (feasible_hops p) o []) set) a) in
            inl (subst (λ (k : ℕ). IsFeasible (view n p (next w (Publish k)) S.fd_then) i h) e feasible)
        | inr d ↦
            let beside : slice_get (published_after w rs (Publish j)) i ≡ slice_get rs i = ap (λ xs. slice_get xs i) is_set ∙ set_beside rs j i L.0 d in
            inr (
              subst (Among h) (ap (λ (o : Option Router). option_map_or (feasible_hops p) o []) beside) a,
              in_force w rs R (Publish j) L i (λ e. d (sym (same_publisher j i e))) (ap (λ (o : Option Router). option_map_or (λ (y : Router). (machine_of y p).fd) o infinity) beside),
            )
      ]
    where
      S : Stepped n N p w R.published_fd R.kept R.inv (Publish j)
      S = stepped n N p w R.published_fd R.kept R.inv (Publish j) L

      is_set : published_after w rs (Publish j) ≡ slice_set rs j L.0
      is_set = ap (λ o. option_map_or (λ (y : Router). slice_set rs j y) o rs) L.1

      same_publisher : (j i : ℕ) → ◌≡◌ {A = Step} (Publish j) (Publish i) → j ≡ i
      same_publisher j i e = cc
  hops_then w rs R (Release j) L i h a = inr (a, in_force w rs R (Release j) L i (λ e. cc) refl)
  hops_then w rs R (Attach j k c) L i h a = inr (a, in_force w rs R (Attach j k c) L i (λ e. cc) refl)
  hops_then w rs R (Detach j k) L i h a = inr (a, in_force w rs R (Detach j k) L i (λ e. cc) refl)

  -- at the opening no next hop is feasible
  opening_hops : (i : ℕ) → feasible_of p (opening n).routers i ≡ []
  opening_hops i = by_router (slice_get (opening n).routers i) refl
    where
      O : Opening (topology n N) (view n p (opening n) (first_fd n N p))
      O = opening_view n N p

      by_router : (o : Option Router) → slice_get (opening n).routers i ≡ o → option_map_or (feasible_hops p) o [] ≡ []
      by_router None at = refl
      by_router (Some r) at =
          let machine : machine_of r p ≡ opening_machine (O.attachment i) (O.ports i) = sym (on_router-there (λ y. machine_of y p) (opening_machine None []) (opening n).routers i r at) ∙ O.machines i in
          ap (map (hop_over r)) (none_passing (is_low (machine_of r p).fd) 0 (machine_of r p).ports (λ q x there. and_left x.up (nat_lt x.reported (machine_of r p).fd) ((O.opening_ports i).ports_down q x (ap (λ (m : Machine). slice_get m.ports q) (sym machine) ∙ there))))

  -- a world that is reached, where whichever next hop each router shows keeps what every state keeps
  pub record WideReached (w : World) (rs : List Router) : Type 0 where
    pub reached : Reached n N p w rs
    pub wide : WideInvariant (topology n N) (wide_view n p w rs reached.published_fd)

  -- so it is at the opening
  wide_started : WideReached (opening n) (opening n).routers
  wide_started = record {
    reached = record {
      kept = opening_kept n N p;
      published_fd = first_fd n N p;
      fds_are = λ i. fd_is p (slice_get (opening n).routers i);
      count = refl;
      run = Start;
      inv = opening_keeps (topology n N) (view n p (opening n) (first_fd n N p)) (opening_view n N p);
    };
    wide = wide_opening_keeps (topology n N) (wide_view n p (opening n) (opening n).routers (first_fd n N p)) (record { opening = opening_view n N p; no_hops = opening_hops });
  }

  -- and after each step
  wide_next : (w : World) (rs : List Router) → WideReached w rs → (s : Step) → Lawful w s → WideReached (next w s) (published_after w rs s)
  wide_next w rs X s L =
      let R = X.reached in
      let S = stepped n N p w R.published_fd R.kept R.inv s L in
      record {
        reached = record {
          kept = (S.is_kept).kept;
          published_fd = S.fd_then;
          fds_are = S.fds_then rs R.fds_are R.count;
          count = published_count w rs s ∙ R.count ∙ sym (next-shape w s).routers;
          run = Then R.run (S.is_kept).step;
          inv = steps_keep machine_laws (topology n N) (view n p w R.published_fd) (view n p (next w s) S.fd_then) R.inv (S.is_kept).step;
        };
        wide = wide_step_keeps (topology n N) (wide_view n p w rs R.published_fd) (wide_view n p (next w s) (published_after w rs s) S.fd_then) X.wide (record { step = (S.is_kept).step; hops = hops_then w rs R s L });
      }

  wide_on : (h : History) (ss : List Step) (v : World) → Runs h.world ss v → WideReached h.world h.published → WideReached (with_steps h ss).world (with_steps h ss).published
  wide_on h [] v r X = X
  wide_on h (s ∷ ss) v r X = wide_on (with_step h s) ss v r.1 (wide_next h.world h.published X s r.0)

  -- the world of every history is reached
  pub wide_reached : (ss : List Step) (w : World) → Runs (opening n) ss w → WideReached (history n ss).world (history n ss).published
  wide_reached ss w r = wide_on (history_from (opening n)) ss w r wide_started
