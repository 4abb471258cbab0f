-- What it does to what counts that a router forgets a prefix: at a port that is down what was reported there may go, and nothing else.
use Rattle.std.proofs.Common.{refl, sym, ap, subst, ◌∙◌, arith, inl, inr, ◌≡◌, ◌≢◌, ◌⊎◌, ℕ, zero, suc, ◌<◌, ◌≤◌, Bool, true, false, not, ◌&&◌, ◌||◌, ◌==◌, List, [], ◌∷◌, map, min, Option, Some, None, is_some, option_map, option_and_then, slice_get, unwrap_or, eqb-true, eq-eqb}
use Rattle.no_packet_loops.proofs.Common.{option_map_or, false≢true, has_row, Unreachable, None_not_Some, and_parts, and-false, slice_get-map, Prefix, prefix_cmp, prefix_eq, Machine, opening_machine, Neighbour, Port, Router, neighbours, machine_of, kept, ripe_of, unripe_of, Topology, LinkEnd, at_port, list_all, reported_by, reported_at}
use Rattle.network_model.proofs.Common.{cases_eq, cases_lt, both_ways, least, ways, infinity, one_if, find as row_of}
use Rattle.router_core.specs.Alone.{is_unreported, knows_nothing, may_forget, router_forgetting}
use Rattle.single_router.specs.Inputs.{attachment_of}
use Rattle.no_packet_loops.proofs.Machines.{prefix_same}
use Rattle.daemon_laws.proofs.{Quiet.attachment_is, Seen.carried, SomeRows.row_forgotten, SomeRows.row_beside, Forgetting.Knows, Forgetting.knows_none}
use Rattle.coming_to_rest.specs.Rest.{IsFinite}
use Rattle.coming_to_rest.proofs.Effects.{token, one_at, cost_of, cost_at}
use Rattle.coming_to_rest.proofs.Sums.{ends_less, ends_but_one}
use Rattle.daemon_laws.specs.Processes.{Processes}
use Rattle.daemon_laws.proofs.Routers.{port_face, faces, port_faces, RouterKept}
use Rattle.daemons_come_to_rest.proofs.Shown.{reported, shown, stale_of, stale, stales, CountsAlike, alike_count, no_more_load}
use Rattle.daemons_come_to_rest.proofs.Moves.{Less, alike_less, stays_of}

-- ---- the ports of a machine as it opens

-- a port at which nothing was reported
abbrev unheard_port : Neighbour → Neighbour
unheard_port n = record { up = n.up; cost = n.cost; reported = infinity }

-- by what a router knows of it
abbrev of_face : Bool × ℕ → Neighbour
of_face f = record { up = f.0; cost = f.1; reported = infinity }

opened_faces : (ports : List Port) → neighbours ports ≡ map of_face (port_faces ports)
opened_faces [] = refl
opened_faces (x ∷ xs) = ap (λ ns. of_face (port_face x) ∷ ns) (opened_faces xs)

unheard_faces : (ns : List Neighbour) → map unheard_port ns ≡ map of_face (faces ns)
unheard_faces [] = refl
unheard_faces (n ∷ ns) = ap (λ ms. unheard_port n ∷ ms) (unheard_faces ns)

-- it costs as much
unheard_cost : (o : Option Neighbour) → cost_of (option_map unheard_port o) ≡ cost_of o
unheard_cost None = refl
unheard_cost (Some n) = refl

-- nothing is stale there
unheard_stale : (o : Option Neighbour) → stale_of (option_map unheard_port o) ≡ 0
unheard_stale None = refl
unheard_stale (Some n) = ap (λ b. one_if (not n.up && not b)) (eq-eqb infinity infinity refl) ∙ ap one_if (and-false (not n.up))

-- where nothing is stale at a port that is down, and infinity was reported where it is up, infinity was reported
unheard_reported : (o : Option Neighbour) → ((n : Neighbour) → o ≡ Some n → is_unreported n ≡ true) → stale_of o ≤ 0 → reported_by (option_map unheard_port o) ≡ reported_by o
unheard_reported None h le = refl
unheard_reported (Some n) h le = sym (by_up n.up refl (n.reported == infinity) refl (h n refl) le)
  where
    by_up : (b : Bool) → n.up ≡ b → (c : Bool) → (n.reported == infinity) ≡ c → (not b || c) ≡ true → one_if (not b && not c) ≤ 0 → n.reported ≡ infinity
    by_up b up true is g l = eqb-true n.reported infinity is
    by_up true up false is g l = absurd (both_ways false refl g)
    by_up false up false is g l = absurd (omega (arith, l))

-- each port passes a test that all pass
unreported_at : (ns : List Neighbour) → list_all is_unreported ns ≡ true → (q : ℕ) (n : Neighbour) → slice_get ns q ≡ Some n → is_unreported n ≡ true
unreported_at [] h q n at = absurd (None_not_Some at)
unreported_at (x ∷ xs) h zero n at = subst (λ o. stale_test o ≡ true) at (and_parts (is_unreported x) (list_all is_unreported xs) h).0
  where
    stale_test : Option Neighbour → Bool
    stale_test None = true
    stale_test (Some y) = is_unreported y
unreported_at (x ∷ xs) h (suc q) n at = unreported_at xs (and_parts (is_unreported x) (list_all is_unreported xs) h).1 q n at

-- a prefix that may be forgotten has a machine
pub may_machine : (p : Prefix) (r : Router) → may_forget p r ≡ true → (m : Machine) × (row_of prefix_cmp p r.machines ≡ Some m)
may_machine p r may = by_row (row_of prefix_cmp p r.machines) refl (and_parts (option_map_or knows_nothing (row_of prefix_cmp p r.machines) false) (has_row (r.table).published (p, Unreachable)) may).0
  where
    by_row : (o : Option Machine) → row_of prefix_cmp p r.machines ≡ o → option_map_or knows_nothing o false ≡ true → (m : Machine) × (row_of prefix_cmp p r.machines ≡ Some m)
    by_row None is e = absurd (false≢true e)
    by_row (Some m) is e = (m, is)

-- the attachment of each prefix stays: it has none that is forgotten
pub forget_attachment : (k : Prefix) (r : Router) → may_forget k r ≡ true → (p : Prefix) → attachment_of (router_forgetting k r) p ≡ attachment_of r p
forget_attachment k r may p = by_prefix (prefix_eq p k) refl
  where
    by_prefix : (b : Bool) → prefix_eq p k ≡ b → attachment_of (router_forgetting k r) p ≡ attachment_of r p
    by_prefix true same =
        let is : p ≡ k = prefix_same p k same in
        subst (λ (q : Prefix). attachment_of (router_forgetting k r) q ≡ attachment_of r q) (sym is)
        (ap (option_and_then (λ (m : Machine). m.attachment)) (row_forgotten k r.machines) ∙ sym (attachment_is k r ∙ (knows_none k r may).attachment_none))
    by_prefix false apart = ap (option_and_then (λ (m : Machine). m.attachment)) (row_beside p k r.machines apart)

-- ---- the processes

-- one router forgets a prefix, which it may
pub record ForgetsOne (w v : Processes) : Type 0 where
  pub i : ℕ
  pub k : Prefix
  pub may : may_forget k (w.routers i) ≡ true
  pub router_is : v.routers i ≡ router_forgetting k (w.routers i)
  pub routers_elsewhere : (j : ℕ) → j ≢ i → v.routers j ≡ w.routers j
  pub coming_same : (e : LinkEnd) → v.coming e ≡ w.coming e

module _ (t : Topology) (F : IsFinite t) (w v : Processes) (G : ForgetsOne w v) where
  abbrev r : Router
  r = w.routers G.i

  -- what is said of each router, where it is said of one that forgets
  forgets_stays : {X : Type 0} (f : Router → X) → f (router_forgetting G.k r) ≡ f r → (j : ℕ) → f (v.routers j) ≡ f (w.routers j)
  forgets_stays f same j = stays_of w v G.i (router_forgetting G.k r) G.router_is G.routers_elsewhere f same j

  -- nothing changes of another prefix
  pub forget_other : (p : Prefix) → prefix_eq p G.k ≡ false → Less t F.routers F.ports p w v
  forget_other p apart = alike_less t F.routers F.ports p w v (record {
    machine_same = forgets_stays (λ (y : Router). machine_of y p) (ap (λ o. unwrap_or o (opening_machine None (neighbours r.ports))) (row_beside p G.k r.machines apart));
    inbox_same = λ e. ap (λ cs. reported (carried p cs)) (G.coming_same e);
    ripe_same = λ e. forgets_stays (λ (y : Router). kept p e.port (ripe_of y)) refl e.router;
    unripe_same = λ e. forgets_stays (λ (y : Router). kept p e.port (unripe_of y)) refl e.router;
  })

  module _ (keeps : RouterKept G.k (w.routers G.i)) where
    -- the machine that is forgotten
    abbrev m : Machine
    m = machine_of r G.k

    -- it knows nothing
    K : Knows m
    K = knows_none G.k r G.may

    -- the machine that the router has then
    abbrev m' : Machine
    m' = machine_of (v.routers G.i) G.k

    machine_is : m' ≡ opening_machine None (neighbours r.ports)
    machine_is = ap (λ (y : Router). machine_of y G.k) G.router_is ∙ ap (λ o. unwrap_or o (opening_machine None (neighbours r.ports))) (row_forgotten G.k r.machines)

    -- its ports are those of the one before, with nothing reported
    port_is : (q : ℕ) → slice_get m'.ports q ≡ option_map unheard_port (slice_get m.ports q)
    port_is q =
        ap (λ (x : Machine). slice_get x.ports q) machine_is
        ∙ ap (λ ns. slice_get ns q) (opened_faces r.ports ∙ ap (map of_face) (sym keeps.faces_are) ∙ sym (unheard_faces m.ports))
        ∙ slice_get-map unheard_port m.ports q

    -- what holds of two machines, the first of which is as the second for all others, holds at each router
    each_machine : (P : Machine → Machine → Type 0) → P m' m → ((x : Machine) → P x x) → (j : ℕ) → P (machine_of (v.routers j) G.k) (machine_of (w.routers j) G.k)
    each_machine P here same j = elim (cases_eq j G.i) [
      | inl is ↦ subst (λ (l : ℕ). P (machine_of (v.routers l) G.k) (machine_of (w.routers l) G.k)) (sym is) here
      | inr ne ↦ subst (λ (y : Router). P (machine_of y G.k) (machine_of (w.routers j) G.k)) (sym (G.routers_elsewhere j ne)) (same (machine_of (w.routers j) G.k))
    ]

    -- both are passive
    token_same : (u : ℕ) → token u m' ≡ token u m
    token_same u = ap (token u) machine_is ∙ sym (ap (λ b. one_at b (min (least (ways m)) m.rd) u) (ap is_some K.computation_none))

    -- nothing is stale then
    stale_none : (q : ℕ) → stale_of (slice_get m'.ports q) ≡ 0
    stale_none q = ap stale_of (port_is q) ∙ unheard_stale (slice_get m.ports q)

    stale_fewer : (e : LinkEnd) → stale (shown G.k v) e ≤ stale (shown G.k w) e
    stale_fewer e = each_machine (λ x y. stale_of (slice_get x.ports e.port) ≤ stale_of (slice_get y.ports e.port)) (let z = stale_none e.port in omega (arith, z)) (λ x. omega arith) e.router

    -- where at no fewer ends something is stale, nothing was at the ends of the router
    module _ (no_fewer : stales t F.routers F.ports (shown G.k w) ≤ stales t F.routers F.ports (shown G.k v)) where
      none_stale : (q : ℕ) → t.valid (at_port G.i q) ≡ true → stale_of (slice_get m.ports q) ≤ 0
      none_stale q valid =
          let e = at_port G.i q in
          let within = F.within e valid in
          let x = ends_but_one t F.routers F.ports e (stale (shown G.k v)) (stale (shown G.k w)) valid within.0 within.1 (λ d there ne. stale_fewer d) in
          let z = stale_none q in
          omega (arith, x, z, no_fewer)

      alike : CountsAlike t (shown G.k w) (shown G.k v)
      alike = record {
        tokens = λ u. each_machine (λ x y. token u x ≡ token u y) (token_same u) (λ x. refl);
        rd_same = each_machine (λ x y. x.rd ≡ y.rd) (ap (λ (x : Machine). x.rd) machine_is ∙ sym K.rd_is) (λ x. refl);
        cost_same = λ e valid. each_machine (λ x y. cost_at x e.port ≡ cost_at y e.port) (ap cost_of (port_is e.port) ∙ unheard_cost (slice_get m.ports e.port)) (λ x. refl) e.router;
        reported_same = λ e valid. at_end e valid;
      }
        where
          here : (q : ℕ) → t.valid (at_port G.i q) ≡ true → reported_at (machine_of (v.routers G.i) G.k) q ≡ reported_at (machine_of (w.routers G.i) G.k) q
          here q valid = ap reported_by (port_is q) ∙ unheard_reported (slice_get m.ports q) (λ n at. unreported_at m.ports K.unreported q n at) (none_stale q valid)

          at_end : (e : LinkEnd) → t.valid e ≡ true → reported_at (machine_of (v.routers e.router) G.k) e.port ≡ reported_at (machine_of (w.routers e.router) G.k) e.port
          at_end e valid = elim (cases_eq e.router G.i) [
            | inl is ↦ subst (λ (l : ℕ). reported_at (machine_of (v.routers l) G.k) e.port ≡ reported_at (machine_of (w.routers l) G.k) e.port) (sym is) (here e.port (subst (λ (l : ℕ). t.valid (at_port l e.port) ≡ true) is valid))
            | inr ne ↦ ap (λ (y : Router). reported_at (machine_of y G.k) e.port) (G.routers_elsewhere e.router ne)
          ]

    -- what is on its way, and what is held, is as before
    inbox_is : (e : LinkEnd) → reported (carried G.k (v.coming e)) ≡ reported (carried G.k (w.coming e))
    inbox_is e = ap (λ cs. reported (carried G.k cs)) (G.coming_same e)

    ripe_is : (e : LinkEnd) → kept G.k e.port (ripe_of (v.routers e.router)) ≡ kept G.k e.port (ripe_of (w.routers e.router))
    ripe_is e = forgets_stays (λ (y : Router). kept G.k e.port (ripe_of y)) refl e.router

    unripe_is : (e : LinkEnd) → kept G.k e.port (unripe_of (v.routers e.router)) ≡ kept G.k e.port (unripe_of (w.routers e.router))
    unripe_is e = forgets_stays (λ (y : Router). kept G.k e.port (unripe_of y)) refl e.router

    -- of the prefix itself something is stale at fewer ends, or nothing counts more
    pub forget_own : (stales t F.routers F.ports (shown G.k v) < stales t F.routers F.ports (shown G.k w)) ⊎ Less t F.routers F.ports G.k w v
    forget_own = elim (cases_lt (stales t F.routers F.ports (shown G.k v)) (stales t F.routers F.ports (shown G.k w))) [
      | inl lt ↦ inl lt
      | inr le ↦ inr (record {
        weights = alike_count t F.routers F.ports (shown G.k w) (shown G.k v) (alike le) (λ e valid u cost x y. rw (inbox_is e, ripe_is (t.far e), unripe_is (t.far e)) (omega arith));
        load_less = no_more_load t F.routers F.ports (shown G.k w) (shown G.k v) (λ e valid. rw (inbox_is e) (omega arith)) (λ e valid. rw (ripe_is e, unripe_is e) (omega arith));
        stale_less = ends_less t F.routers F.ports (stale (shown G.k v)) (stale (shown G.k w)) (λ e valid. stale_fewer e);
      })
    ]
