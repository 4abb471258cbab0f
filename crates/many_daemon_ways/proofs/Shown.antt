-- A router that shows a next hop in place of its row: all that is kept of processes is kept, if its neighbour there reported less than the
-- feasible distance that the router published.
use Rattle.std.proofs.Common.{refl, sym, ap, subst, ◌∙◌, arith, inl, inr, ◌≡◌, ◌⊎◌, ℕ, ◌<◌, ◌≤◌, Bool, true, false, ◌==◌, if◌then◌else◌, cond, List, Some, None, option_and_then, eqb-true, eq-eqb}
use Rattle.no_packet_loops.proofs.Common.{find as row_of, put, None_not_Some, and_parts, and_from, find-put, Prefix, prefix_cmp, prefix_cmp_total, Machine, Entry, Via, NextHop, Router, machine_of, session_at, next_hop, next_hop_at, is_next_hop, is_up_at, sorted-put, Topology, LinkEnd, reported_at, EndInvariant}
use Rattle.network_model.proofs.Common.{both_ways}
use Rattle.no_packet_loops.proofs.Machines.{prefix_itself}
use Rattle.many_ways.proofs.Shown.{reshows}
use Rattle.daemon_laws.specs.Processes.{Processes}
use Rattle.daemon_laws.proofs.{Seen.is_port_in, Routers.RouterKept, Told.Told, Gone.Gone, Always.Keeps}
use Rattle.daemon_laws.proofs.Invariant.{router_at, session_of, end_from, MayBe, Left, Whole, Invariant, links_far}
use Rattle.daemon_laws.proofs.Orderly.{carried_later, held_later, held_take, Orderly}

-- ---- what is shown

-- a router with these rows as those that it published
abbrev pub with_published : List (Prefix × Entry) → Router → Router
with_published rows r = record r { table = record r.table { published = rows } }

-- rows in which this next hop stands for the prefix
abbrev pub with_hop : Prefix → NextHop → List (Prefix × Entry) → List (Prefix × Entry)
with_hop p h rows = put prefix_cmp p (Via h.port h.session) rows

-- the routers, of which router i shows this next hop in place of its row of the prefix
abbrev pub shown_routers : Prefix → ℕ → NextHop → (ℕ → Router) → ℕ → Router
shown_routers p i h rs k = with_published (if k == i then with_hop p h ((rs k).table).published else ((rs k).table).published) (rs k)

-- and the processes
abbrev pub showing : Prefix → ℕ → NextHop → Processes → Processes
showing p i h w = record { routers = shown_routers p i h w.routers; coming = w.coming; last = w.last; heard = w.heard; lost = w.lost }

-- a next hop that stands for the prefix is found
pub hop_row : (p : Prefix) (h : NextHop) (rows : List (Prefix × Entry)) → row_of prefix_cmp p (with_hop p h rows) ≡ Some (Via h.port h.session)
hop_row p h rows = find-put prefix_cmp prefix_cmp_total p p (Via h.port h.session) rows ∙ ap (λ b. cond b (Some (Via h.port h.session)) (row_of prefix_cmp p rows)) (prefix_itself p)

-- a router that has heard of the prefix keeps what a router keeps with a next hop in place of its row
pub keeps_hop : (p : Prefix) (h : NextHop) (r : Router) → RouterKept p r → (row_of prefix_cmp p r.machines ≡ None → ⊥) → RouterKept p (with_published (with_hop p h (r.table).published) r)
keeps_hop p h r R heard = record {
  ripe_within = R.ripe_within;
  sorted = R.sorted;
  published_sorted = sorted-put (r.table).published p (Via h.port h.session) R.published_sorted;
  control_is = R.control_is;
  published_heard = λ none. absurd (heard none);
  faces_are = R.faces_are;
}

-- a router may show this next hop, where its published feasible distance is that. It has heard of the prefix, the port is up, in the session
-- that it saw last, and the neighbour there reported less
pub record MayShow (p : Prefix) (r : Router) (fd : ℕ) (h : NextHop) : Type 0 where
  pub machine : Machine
  pub heard : row_of prefix_cmp p r.machines ≡ Some machine
  pub up : is_up_at (machine_of r p) h.port ≡ true
  pub session_is : h.session ≡ session_at r.ports h.port
  pub low : reported_at (machine_of r p) h.port < fd

-- ---- what is kept

module _ (t : Topology) (p : Prefix) (fds : ℕ → ℕ) (w : Processes) (A : Keeps t p fds w) (i : ℕ) (h : NextHop) (M : MayShow p (w.routers i) (fds i) h) where
  -- the processes in which the router shows it
  abbrev v : Processes
  v = showing p i h w

  abbrev I : Invariant t p fds w
  I = A.invariant

  abbrev O : Orderly t p w
  O = A.orderly

  -- an end shows what it showed before, or the next hop
  at : (e : LinkEnd) (n : ℕ) → is_next_hop e.port n (next_hop_at p (router_at v e)) ≡ true
      → (is_next_hop e.port n (next_hop_at p (router_at w e)) ≡ true) ⊎ ((e.router ≡ i) × (h.port ≡ e.port) × (h.session ≡ n))
  at e n shown = by_test (e.router == i) refl shown
    where
      by_test : (b : Bool) → (e.router == i) ≡ b
          → is_next_hop e.port n (option_and_then next_hop (row_of prefix_cmp p (if b then with_hop p h ((router_at w e).table).published else ((router_at w e).table).published))) ≡ true
          → (is_next_hop e.port n (next_hop_at p (router_at w e)) ≡ true) ⊎ ((e.router ≡ i) × (h.port ≡ e.port) × (h.session ≡ n))
      by_test false is s = inl s
      by_test true is s =
          let both = and_parts (h.port == e.port) (h.session == n) (sym (ap (λ o. is_next_hop e.port n (option_and_then next_hop o)) (hop_row p h ((router_at w e).table).published)) ∙ s) in
          inr (eqb-true e.router i is, eqb-true h.port e.port both.0, eqb-true h.session n both.1)

  -- the end of the next hop is up
  at_up : (e : LinkEnd) → e.router ≡ i → h.port ≡ e.port → is_up_at (machine_of (router_at w e) p) e.port ≡ true
  at_up e r q = subst (λ (j : ℕ). is_up_at (machine_of (w.routers j) p) e.port ≡ true) (sym r) (subst (λ (x : ℕ). is_up_at (machine_of (w.routers i) p) x ≡ true) q M.up)

  -- in the session of the next hop
  at_session : (e : LinkEnd) (n : ℕ) → e.router ≡ i → h.port ≡ e.port → h.session ≡ n → session_of w e ≡ n
  at_session e n r q s = subst (λ (j : ℕ). session_at (w.routers j).ports e.port ≡ n) (sym r) (ap (session_at (w.routers i).ports) (sym q) ∙ sym M.session_is ∙ s)

  at_current : (e : LinkEnd) (n : ℕ) → e.router ≡ i → h.port ≡ e.port → h.session ≡ n → is_port_in p (router_at w e) e.port n ≡ true
  at_current e n r q s = and_from (is_up_at (machine_of (router_at w e) p) e.port) (session_of w e == n) (at_up e r q) (eq-eqb (session_of w e) n (at_session e n r q s))

  -- and its neighbour reported less than the published feasible distance
  at_low : (e : LinkEnd) → e.router ≡ i → h.port ≡ e.port → reported_at (machine_of (router_at w e) p) e.port < fds e.router
  at_low e r q = subst (λ (j : ℕ). reported_at (machine_of (w.routers j) p) e.port < fds j) (sym r) (subst (λ (x : ℕ). reported_at (machine_of (w.routers i) p) x < fds i) q M.low)

  -- that session is the last of its end
  at_last : (e : LinkEnd) (n : ℕ) → e.router ≡ i → h.port ≡ e.port → h.session ≡ n → w.last e ≤ n
  at_last e n r q s = (let l = O.up_last e (at_up e r q) in let is = at_session e n r q s in omega (arith, l, is))

  -- in a session that neither end has left
  links' : (e : LinkEnd) → t.valid e ≡ true → (n : ℕ) → MayBe p n w e → MayBe p n w (t.far e) → EndInvariant (end_from t p n fds v e) (end_from t p n fds v (t.far e))
  links' e va n one two =
      reshows (end_from t p n fds w e) (end_from t p n fds w (t.far e)) (is_next_hop e.port n (next_hop_at p (router_at v e))) (is_next_hop (t.far e).port n (next_hop_at p (router_at v (t.far e))))
      (I.links e va n one two) (links_far I e va n one two)
      (λ s. elim (at e n s) [ inl before ↦ inl before | inr k ↦ inr (at_current e n k.0 k.1 k.2, at_low e k.0 k.1) ])

  -- what an end was told
  told' : (e : LinkEnd) → t.valid e ≡ true → (n : ℕ) → Whole t n w.lost e → MayBe p n w e → MayBe p n w (t.far e) → Told (end_from t p n fds v e) (end_from t p n fds v (t.far e))
  told' e va n whole one two = (let T = I.told e va n whole one two in record { last_is = T.last_is; answers = record { answered = T.answers.answered } })

  -- in a session that this end has left, and the other has not, the next hop is not shown
  shown_before : (e : LinkEnd) (n : ℕ) → is_port_in p (router_at w e) e.port n ≡ false → is_next_hop e.port n (next_hop_at p (router_at v e)) ≡ true → is_next_hop e.port n (next_hop_at p (router_at w e)) ≡ true
  shown_before e n off s = elim (at e n s) [ inl before ↦ before | inr k ↦ absurd (both_ways (is_port_in p (router_at w e) e.port n) off (at_current e n k.0 k.1 k.2)) ]

  alone' : (e : LinkEnd) → t.valid e ≡ true → (n : ℕ) → Left p n v e → MayBe p n w (t.far e) → Gone (end_from t p n fds v e) (end_from t p n fds v (t.far e))
  alone' e va n left two =
      let G = I.alone e va n (record { off = left.off; past = left.past }) two in
      record {
        shown_current = λ s. G.shown_current (shown_before e n left.off s);
        published_edge_falls = λ s. G.published_edge_falls (shown_before e n left.off s);
        replies_awaited = G.replies_awaited;
        queries_once = G.queries_once;
        published_edge_waits = λ a s le. G.published_edge_waits a (shown_before e n left.off s) le;
      }

  -- each router keeps what a router keeps
  keeps' : (j : ℕ) → RouterKept p (v.routers j)
  keeps' j = by_test (j == i) refl
    where
      by_test : (b : Bool) → (j == i) ≡ b → RouterKept p (with_published (if b then with_hop p h ((w.routers j).table).published else ((w.routers j).table).published) (w.routers j))
      by_test true is = keeps_hop p h (w.routers j) (I.keeps j) (λ none. None_not_Some (sym none ∙ ap (λ (k : ℕ). row_of prefix_cmp p (w.routers k).machines) (eqb-true j i is) ∙ M.heard))
      by_test false is = I.keeps j

  invariant' : Invariant t p fds v
  invariant' = record {
    sound = I.sound;
    pfd_bounded = I.pfd_bounded;
    keeps = keeps';
    ripe_lawful = I.ripe_lawful;
    unripe_lawful = I.unripe_lawful;
    cheap = I.cheap;
    last_is = I.last_is;
    coming_lawful = I.coming_lawful;
    links = links';
    told = told';
    alone = alone';
  }

  -- the order of sessions
  orderly' : Orderly t p v
  orderly' = record {
    up_last = O.up_last;
    held_past = O.held_past;
    coming_past = O.coming_past;
    heard_past = O.heard_past;
    heard_here = O.heard_here;
    row_past = λ e k s. elim (at e k s) [ inl before ↦ O.row_past e k before | inr x ↦ (let is = at_session e k x.0 x.1 x.2 in omega (arith, is)) ];
    row_held = λ e k s. elim (at e k s) [
      | inl before ↦ O.row_held e k before
      | inr x ↦ held_take e.port k ((router_at w e).gate).ripe ((router_at w e).gate).held
          (held_later e.port (session_of w e) k ((router_at w e).gate).held (let is = at_session e k x.0 x.1 x.2 in omega (arith, is)) (O.held_past e))
    ];
    row_coming = λ e va k s. elim (at e k s) [ inl before ↦ O.row_coming e va k before | inr x ↦ carried_later (w.last e) k (w.coming (t.far e)) (at_last e k x.0 x.1 x.2) (O.coming_past e va) ];
    row_heard = λ e va k s. elim (at e k s) [ inl before ↦ O.row_heard e va k before | inr x ↦ (let past = O.heard_past e va in let last = at_last e k x.0 x.1 x.2 in omega (arith, past, last)) ];
  }

  -- all is kept
  pub shown_keeps : Keeps t p fds (showing p i h w)
  shown_keeps = record { invariant = invariant'; orderly = orderly'; placed = A.placed }
