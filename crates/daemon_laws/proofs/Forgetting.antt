-- A router that forgets a prefix has, for it, what one has that has heard nothing; nothing else changes.
use Rattle.std.proofs.Common.{refl, sym, ap, subst, ◌∙◌, arith, ◌≡◌, ℕ, zero, suc, ◌≤◌, Bool, true, false, not, ◌&&◌, ◌||◌, ◌==◌, if◌then◌else◌, List, [], ◌∷◌, Option, Some, None, is_some, is_none, slice_get, option_map, option_and_then, unwrap_or, eqb-true}
use Rattle.no_packet_loops.proofs.Common.{option_map_or, None_not_Some, Some_injective, and_parts, and-false, false≢true, slice_get-map, Prefix, prefix_cmp, prefix_eq, Machine, opening_machine, is_port, Neighbour, Port, Router, neighbours, machine_of, session_at, has_row, next_hop, next_hop_at, is_next_hop, IsSound, is_up_at, test_at, list_all, Unreachable, awaits_of, owes_of, reported_at, reported_by, opened_sound, ShownAs}
use Rattle.network_model.proofs.Common.{infinity, find as row_of}
use Rattle.no_packet_loops.proofs.Machines.{prefix_same}
use Rattle.route_table.specs.Place.{without}
use Rattle.route_table.proofs.PrefixPlaces.{sorted-without}
use Rattle.router_core.specs.Alone.{is_unreported, knows_nothing, may_forget, router_forgetting}
use Rattle.daemon_laws.specs.{Processes.Carried, Happenings.forgotten}
use Rattle.daemon_laws.proofs.{Seen.end_in, Items.up_is, Telling.none_up, Cheap.IsCheap, SomeRows.row_forgotten, SomeRows.row_beside, SomeRows.chosen_without}
use Rattle.daemon_laws.proofs.Routers.{face, port_face, faces, faces_opened, RouterKept}
use Rattle.daemon_laws.proofs.InForce.{AsChosen, PutsInForce, puts_held, puts_nothing}

-- ---- a machine that knows nothing

-- what the test says of a machine
pub record Knows (m : Machine) : Type 0 where
  pub computation_none : m.computation ≡ None
  pub attachment_none : m.attachment ≡ None
  pub successor_none : m.successor ≡ None
  pub rd_is : m.rd ≡ infinity
  pub fd_is : m.fd ≡ infinity
  pub unreported : list_all is_unreported m.ports ≡ true

-- what passes the test for none is none
none_by_test : {X : Type 0} (o : Option X) → is_none o ≡ true → o ≡ None
none_by_test None h = refl
none_by_test (Some x) h = absurd (false≢true h)

-- a machine that passes the test
knows_by_test : (m : Machine) → knows_nothing m ≡ true → Knows m
knows_by_test m h =
    let e = and_parts (is_none m.computation && is_none m.attachment && is_none m.successor && (m.rd == infinity) && (m.fd == infinity)) (list_all is_unreported m.ports) h in
    let d = and_parts (is_none m.computation && is_none m.attachment && is_none m.successor && (m.rd == infinity)) (m.fd == infinity) e.0 in
    let c = and_parts (is_none m.computation && is_none m.attachment && is_none m.successor) (m.rd == infinity) d.0 in
    let b = and_parts (is_none m.computation && is_none m.attachment) (is_none m.successor) c.0 in
    let a = and_parts (is_none m.computation) (is_none m.attachment) b.0 in
    record { computation_none = none_by_test m.computation a.0; attachment_none = none_by_test m.attachment a.1; successor_none = none_by_test m.successor b.1; rd_is = eqb-true m.rd infinity c.1; fd_is = eqb-true m.fd infinity d.1; unreported = e.1 }

-- at a port that is up, infinity was reported
unreported_up : (ns : List Neighbour) → list_all is_unreported ns ≡ true → (q : ℕ) → test_at (λ (n : Neighbour). n.up) (slice_get ns q) ≡ true → reported_by (slice_get ns q) ≡ infinity
unreported_up [] h q up = absurd (false≢true up)
unreported_up (n ∷ ns) h zero up = by_up n.up refl (and_parts (is_unreported n) (list_all is_unreported ns) h).0 up
  where
    by_up : (b : Bool) → n.up ≡ b → (not b || (n.reported == infinity)) ≡ true → b ≡ true → n.reported ≡ infinity
    by_up true is g t = eqb-true n.reported infinity g
    by_up false is g t = absurd (false≢true t)
unreported_up (n ∷ ns) h (suc q) up = unreported_up ns (and_parts (is_unreported n) (list_all is_unreported ns) h).1 q up

-- the machine of a prefix that may be forgotten knows nothing
pub knows_none : (p : Prefix) (r : Router) → may_forget p r ≡ true → Knows (machine_of r p)
knows_none p r h = knows_by_test (machine_of r p) (by_row (row_of prefix_cmp p r.machines) (and_parts (option_map_or knows_nothing (row_of prefix_cmp p r.machines) false) (has_row (r.table).published (p, Unreachable)) h).0)
  where
    by_row : (o : Option Machine) → option_map_or knows_nothing o false ≡ true → knows_nothing (unwrap_or o (opening_machine None (neighbours r.ports))) ≡ true
    by_row None g = absurd (false≢true g)
    by_row (Some m) g = g

-- ---- a router that forgets a prefix

module _ (p : Prefix) (r : Router) (R : RouterKept p r) (sound : IsSound (machine_of r p)) (cheap : IsCheap (machine_of r p)) where
  -- the machine of a prefix of which nothing was heard
  abbrev m0 : Machine
  m0 = opening_machine None (neighbours r.ports)

  -- a port of that machine is a port of the one there is, at the same cost, with nothing reported
  record PortThere (q : ℕ) (n : Neighbour) : Type 0 where
    there : Neighbour
    at : slice_get (machine_of r p).ports q ≡ Some there
    cost_same : n.cost ≡ there.cost
    nothing : n.reported ≡ infinity

  port_there : (q : ℕ) (n : Neighbour) → slice_get (neighbours r.ports) q ≡ Some n → PortThere q n
  port_there q n is = by_port (slice_get r.ports q) (slice_get (machine_of r p).ports q) refl
      (sym (slice_get-map (λ (x : Port). record { up = x.up; cost = x.cost; reported = infinity }) r.ports q) ∙ is)
      (sym (slice_get-map face (machine_of r p).ports q) ∙ ap (λ bs. slice_get bs q) R.faces_are ∙ slice_get-map port_face r.ports q)
    where
      by_port : (o : Option Port) (k : Option Neighbour) → slice_get (machine_of r p).ports q ≡ k → option_map (λ (x : Port). record { up = x.up; cost = x.cost; reported = infinity }) o ≡ Some n
          → option_map face k ≡ option_map port_face o → PortThere q n
      by_port None k at e same = absurd (None_not_Some e)
      by_port (Some x) None at e same = absurd (None_not_Some same)
      by_port (Some x) (Some y) at e same = record {
        there = y;
        at = at;
        cost_same = ap (λ (z : Neighbour). z.cost) (sym (Some_injective e)) ∙ ap (λ (f : Bool × ℕ). f.1) (sym (Some_injective same));
        nothing = ap (λ (z : Neighbour). z.reported) (sym (Some_injective e));
      }

  -- that machine is sound
  sound_opened : IsSound m0
  sound_opened = opened_sound None (neighbours r.ports) (λ c e. absurd (None_not_Some e))
      (λ q n at. (let T = port_there q n at in let g = sound.ports_sound q T.there T.at in record { costs = (let a = g.costs in let b = T.cost_same in omega (arith, a, b)); bounded = (let u = T.nothing in omega (arith, u)) }))
      (λ q n at. (port_there q n at).nothing)

  -- and its costs are at most the greatest
  cheap_opened : IsCheap m0
  cheap_opened = record {
    of_ports = λ q n at. (let T = port_there q n at in let a = cheap.of_ports q T.there T.at in let b = T.cost_same in omega (arith, a, b));
    at_home = λ c e. absurd (None_not_Some e);
  }

  -- the router that forgets the prefix
  abbrev r' : Router
  r' = router_forgetting p r

  machine_now : machine_of r' p ≡ m0
  machine_now = ap (λ o. unwrap_or o m0) (row_forgotten p r.machines)

  -- it keeps what a router keeps
  kept_here : RouterKept p r'
  kept_here = record {
    ripe_within = R.ripe_within;
    sorted = sorted-without r.machines p R.sorted;
    published_sorted = sorted-without (r.table).published p R.published_sorted;
    control_is = ap (λ rows. without p rows) R.control_is ∙ chosen_without p r.ports r.machines;
    published_heard = λ none. row_forgotten p (r.table).published;
    faces_are = ap (λ (m : Machine). faces m.ports) machine_now ∙ faces_opened r.ports;
  }

  -- the same ports are up
  up_same : (q : ℕ) → is_up_at (machine_of r' p) q ≡ is_up_at (machine_of r p) q
  up_same q = by_port (slice_get r.ports q) refl
    where
      by_port : (o : Option Port) → slice_get r.ports q ≡ o → is_up_at (machine_of r' p) q ≡ is_up_at (machine_of r p) q
      by_port None at = none_up p r' kept_here q at ∙ sym (none_up p r R q at)
      by_port (Some x) at = up_is p r' kept_here q x at ∙ sym (up_is p r R q x at)

  -- no port of the machine that it has then reported a distance
  reported_none : (q : ℕ) → reported_at (machine_of r' p) q ≡ infinity
  reported_none q = ap (λ (m : Machine). reported_at m q) machine_now ∙ by_port (slice_get (neighbours r.ports) q) refl
    where
      by_port : (o : Option Neighbour) → slice_get (neighbours r.ports) q ≡ o → reported_by o ≡ infinity
      by_port None at = refl
      by_port (Some n) at = (port_there q n at).nothing

  module _ (fd : ℕ) (may : may_forget p r ≡ true) where
    -- what is known of the machine that is forgotten
    K : Knows (machine_of r p)
    K = knows_none p r may

    -- the ends of the router's links show a row that is in force: none
    shown_forgotten : (n q : ℕ) (cs : List Carried) → ShownAs (end_in p n fd r q cs) (end_in p n infinity r' q cs)
    shown_forgotten n q cs =
        let m = machine_of r p in
        let x = end_in p n fd r q cs in
        let computation : (machine_of r' p).computation ≡ m.computation = ap (λ (k : Machine). k.computation) machine_now ∙ sym K.computation_none in
        let successor : (machine_of r' p).successor ≡ m.successor = ap (λ (k : Machine). k.successor) machine_now ∙ sym K.successor_none in
        let rd : (machine_of r' p).rd ≡ m.rd = ap (λ (k : Machine). k.rd) machine_now ∙ sym K.rd_is in
        let feasible : (machine_of r' p).fd ≡ m.fd = ap (λ (k : Machine). k.fd) machine_now ∙ sym K.fd_is in
        let none : is_next_hop q n (next_hop_at p r') ≡ false = ap (λ o. is_next_hop q n (option_and_then next_hop o)) (row_forgotten p (r.table).published) in
        let shown : is_next_hop q n (next_hop_at p r') ≡ x.chosen = none ∙ sym (ap (λ s. x.current && is_port q s) K.successor_none ∙ and-false x.current) in
        let current : (is_up_at (machine_of r' p) q && (session_at r.ports q == n)) ≡ x.current = ap (λ b. b && (session_at r.ports q == n)) (up_same q) in
        record {
          reported = reported_at (machine_of r' p) q;
          out = x.out;
          kept = x.kept;
          is = λ z. record x {
            current = current z;
            fd = feasible z;
            rd = rd z;
            reported = reported_at (machine_of r' p) q;
            pfd = sym K.fd_is z;
            active = is_some (computation z);
            awaits = current z && awaits_of (computation z) q;
            owes = current z && owes_of (computation z) q;
            chosen = current z && is_port q (successor z);
            shown = shown z;
          };
          reported_is = λ on. reported_none q ∙ sym (unreported_up m.ports K.unreported q (and_parts (is_up_at m q) (session_at r.ports q == n) on).0);
          pipe_is = refl;
        }

    -- a router that forgets the prefix
    pub puts_forgotten : PutsInForce p r r' fd infinity
    puts_forgotten = puts_held p r r' fd infinity (subst IsSound (sym machine_now) sound_opened) kept_here (subst IsCheap (sym machine_now) cheap_opened) refl refl up_same (omega arith) (AsChosen shown_forgotten)

  module _ (k : Prefix) (fd : ℕ) (bounded : fd ≤ infinity) where
    -- a router that forgets another prefix
    puts_beside : prefix_eq p k ≡ false → PutsInForce p r (router_forgetting k r) fd fd
    puts_beside apart =
        let machine : machine_of (router_forgetting k r) p ≡ machine_of r p = ap (λ o. unwrap_or o m0) (row_beside p k r.machines apart) in
        let row = row_beside p k (r.table).published apart in
        puts_nothing p r (router_forgetting k r) fd fd sound (record {
          ripe_within = R.ripe_within;
          sorted = sorted-without r.machines k R.sorted;
          published_sorted = sorted-without (r.table).published k R.published_sorted;
          control_is = ap (λ rows. without k rows) R.control_is ∙ chosen_without k r.ports r.machines;
          published_heard = λ none. row ∙ R.published_heard (sym (row_beside p k r.machines apart) ∙ none);
          faces_are = ap (λ (m : Machine). faces m.ports) machine ∙ R.faces_are;
        }) cheap bounded refl refl machine row refl

    -- a router that forgets a prefix, where it may
    pub puts_forgetting : PutsInForce p r (forgotten k r) fd (if prefix_eq p k && may_forget k r then infinity else fd)
    puts_forgetting = by_prefix (prefix_eq p k) refl (may_forget k r) refl
      where
        by_prefix : (b : Bool) → prefix_eq p k ≡ b → (a : Bool) → may_forget k r ≡ a → PutsInForce p r (if a then router_forgetting k r else r) fd (if b && a then infinity else fd)
        by_prefix true same true may =
            subst (λ (j : Prefix). PutsInForce p r (router_forgetting j r) fd infinity) (prefix_same p k same) (puts_forgotten fd (ap (λ (j : Prefix). may_forget j r) (prefix_same p k same) ∙ may))
        by_prefix false apart true may = puts_beside apart
        by_prefix _ _ _ may = puts_nothing p r r fd fd sound R cheap bounded refl refl refl refl refl
