-- The invariant holds where routers begin.
use Rattle.std.proofs.Common.{refl, sym, ap, subst, ◌∙◌, arith, ◌≡◌, ℕ, zero, suc, ◌<◌, ◌≤◌, Bool, true, false, ◌&&◌, ◌==◌, nat_le, nat_lt, cond, if◌then◌else◌, List, [], ◌∷◌, ◌++◌, map, length, Option, Some, None, slice_get, option_map, option_and_then, unwrap_or, take, drop, eq-eqb, leb-true}
use Rattle.no_packet_loops.proofs.Common.{option_map_or, take-nil, drop-nil, and_parts, None_not_Some, Some_injective, find-put, Prefix, prefix_cmp, prefix_eq, IsCost, Machine, opening_machine, infinity, Neighbour, Port, Entry, Router, neighbours, machine_of, rows_of, session_at, entry_of, chosen_rows, next_hop, next_hop_at, is_next_hop, is_up_at, is_port, test_at, kept, ripe_of, unripe_of, IsSound, prefix_cmp_total, find-map, sorted-map, sorted-rows_of, slice_get-map, Topology, LinkEnd, most_ports, awaits, owes_port, is_active, opened_sound, pipe, count, messages, live, one_if_at_most_one, end_invariant_new}
use Rattle.network_model.proofs.Common.{both_ways, and_left, Query, Reply, one_if, greatest_cost, find as row_of}
use Rattle.single_router.specs.{declared.opening.Attachment.Attachment, Inputs.cost_fault}
use Rattle.c_interface.specs.{declared.fault.CallFault.CallFault, declared.fault.CallFault.TheVariants.BadCost, declared.fault.CallFault.TheVariants.TooManyPorts, Rows.prefix_fault}
use Rattle.single_router.specs.Openings.{first_fault_in, attachment_fault, attachment_row, attachments_fault, costs_fault, make_fault, made_router, unused_port}
use Rattle.daemon_laws.specs.{Processes.Processes, Happenings.IsMade, Happenings.IsOpening, Facts.first_fds}
use Rattle.daemon_laws.proofs.{Seen.carried, Seen.arriving_in, Seen.is_port_in, Routers.faces, Routers.faces_opened, Routers.RouterKept, Cheap.IsCheap, Telling.neither}
use Rattle.daemon_laws.proofs.Invariant.{router_at, session_of, end_from, Invariant}

-- ---- what the tests say

-- where no fault is found in a list, none is found in an element
none_in : {X : Type 0} (fault : X → Option CallFault) (xs : List X) → first_fault_in fault xs ≡ None → (k : ℕ) (x : X) → slice_get xs k ≡ Some x → fault x ≡ None
none_in fault [] h k x at = absurd (None_not_Some at)
none_in fault (y ∷ ys) h zero x at = ap fault (sym (Some_injective at)) ∙ (neither (fault y) (first_fault_in fault ys) h).0
none_in fault (y ∷ ys) h (suc k) x at = none_in fault ys (neither (fault y) (first_fault_in fault ys) h).1 k x at

-- a number that is no fault is a cost
good_cost : (n : ℕ) → cost_fault n ≡ None → IsCost n
good_cost n h = by_test (nat_le 1 n && nat_le n greatest_cost) refl h
  where
    by_test : (b : Bool) → (nat_le 1 n && nat_le n greatest_cost) ≡ b → (if b then None else Some BadCost) ≡ None → IsCost n
    by_test false is g = absurd (None_not_Some (sym g))
    by_test true is g =
        let parts = and_parts (nat_le 1 n) (nat_le n greatest_cost) is in
        record { positive = leb-true 1 n parts.0; small = leb-true n greatest_cost parts.1 }

-- the costs of ports that are no fault
good_costs : (costs : List ℕ) → costs_fault costs ≡ None → (k n : ℕ) → slice_get costs k ≡ Some n → IsCost n
good_costs costs h k n at = good_cost n (none_in cost_fault costs (by_length (nat_lt most_ports (length costs)) h) k n at)
  where
    by_length : (b : Bool) → (if b then Some TooManyPorts else first_fault_in cost_fault costs) ≡ None → first_fault_in cost_fault costs ≡ None
    by_length true g = absurd (None_not_Some (sym g))
    by_length false g = g

-- a cost among the rows of values that all are costs
row_cost : (p : Prefix) (xs : List (Prefix × ℕ)) → ((k : ℕ) (x : Prefix × ℕ) → slice_get xs k ≡ Some x → IsCost x.1) → (c : ℕ) → row_of prefix_cmp p (rows_of xs) ≡ Some c → IsCost c
row_cost p [] all c is = absurd (None_not_Some is)
row_cost p (x ∷ xs) all c is = by_key (row_cost p xs (λ k. all (suc k)) c) (prefix_eq p x.0) (sym (find-put prefix_cmp prefix_cmp_total p x.0 x.1 (rows_of xs)) ∙ is)
  where
    by_key : (row_of prefix_cmp p (rows_of xs) ≡ Some c → IsCost c) → (b : Bool) → cond b (Some x.1) (row_of prefix_cmp p (rows_of xs)) ≡ Some c → IsCost c
    by_key rest true e = subst IsCost (Some_injective e) (all 0 x refl)
    by_key rest false e = rest e

-- ---- a router as it is made

module _ (p : Prefix) (costs : List ℕ) (attachments : List Attachment) (good : make_fault costs attachments ≡ None) where
  abbrev ports : List Port
  ports = map unused_port costs

  -- the costs of its attachments
  abbrev homes : List (Prefix × ℕ)
  homes = rows_of (map attachment_row attachments)

  abbrev r : Router
  r = made_router costs attachments

  -- the cost of its attachment to the prefix
  abbrev home : Option ℕ
  home = row_of prefix_cmp p homes

  attachment_costs : (k : ℕ) (x : Prefix × ℕ) → slice_get (map attachment_row attachments) k ≡ Some x → IsCost x.1
  attachment_costs k x at = by_attachment (slice_get attachments k) refl (sym (slice_get-map attachment_row attachments k) ∙ at)
    where
      by_attachment : (o : Option Attachment) → slice_get attachments k ≡ o → option_map attachment_row o ≡ Some x → IsCost x.1
      by_attachment None is e = absurd (None_not_Some e)
      by_attachment (Some a) is e =
          let f : attachment_fault a ≡ None = none_in attachment_fault attachments (neither (costs_fault costs) (attachments_fault attachments) good).1 k a is in
          subst (λ (y : Prefix × ℕ). IsCost y.1) (Some_injective e) (good_cost a.cost (neither (prefix_fault a.addr a.len) (cost_fault a.cost) f).1)

  opens : machine_of r p ≡ opening_machine home (neighbours ports)
  opens = ap (λ o. unwrap_or o (opening_machine None (neighbours ports))) (find-map prefix_cmp (λ (c : ℕ). opening_machine (Some c) (neighbours ports)) p homes) ∙ by_row home
    where
      by_row : (o : Option ℕ) → unwrap_or (option_map (λ c. opening_machine (Some c) (neighbours ports)) o) (opening_machine None (neighbours ports)) ≡ opening_machine o (neighbours ports)
      by_row None = refl
      by_row (Some c) = refl

  -- a port is down, costs something, and nothing was reported there
  record FirstPort (n : Neighbour) : Type 0 where
    is_down : n.up ≡ false
    costs_some : 0 < n.cost
    small : n.cost ≤ greatest_cost
    unheard : n.reported ≡ infinity

  first_port : (q : ℕ) (n : Neighbour) → slice_get (neighbours ports) q ≡ Some n → FirstPort n
  first_port q n at = by_cost (slice_get costs q) refl
      (sym (slice_get-map (λ (x : Port). record { up = x.up; cost = x.cost; reported = infinity }) ports q ∙ ap (option_map (λ (x : Port). record { up = x.up; cost = x.cost; reported = infinity })) (slice_get-map unused_port costs q)) ∙ at)
    where
      by_cost : (o : Option ℕ) → slice_get costs q ≡ o → option_map (λ (x : Port). record { up = x.up; cost = x.cost; reported = infinity }) (option_map unused_port o) ≡ Some n → FirstPort n
      by_cost None is e = absurd (None_not_Some e)
      by_cost (Some c) is e =
          let g : IsCost c = good_costs costs (neither (costs_fault costs) (attachments_fault attachments) good).0 q c is in
          subst FirstPort (Some_injective e) (record { is_down = refl; costs_some = (let h = g.positive in omega (arith, h)); small = g.small; unheard = refl })

  sound_made : IsSound (machine_of r p)
  sound_made = subst IsSound (sym opens)
      (opened_sound home (neighbours ports)
      (λ c is. (let g = row_cost p (map attachment_row attachments) attachment_costs c is in let a = g.positive in let b = g.small in (omega (arith, a), omega (arith, b))))
      (λ q n at. record { costs = (first_port q n at).costs_some; bounded = (let u = (first_port q n at).unheard in omega (arith, u)) })
      (λ q n at. (first_port q n at).unheard))

  -- the entry of a machine as opened with an attachment is Local
  entry_local : (c : ℕ) → entry_of ports (opening_machine (Some c) (neighbours ports)) ≡ Entry.Local
  entry_local c = ap (λ b. if b then Entry.Local else Entry.Via (length (neighbours ports)) (session_at ports (length (neighbours ports)))) (eq-eqb (length (neighbours ports)) (length (neighbours ports)) refl)

  entries_local : (rows : List (Prefix × ℕ)) → map (λ a. (a.0, Entry.Local)) rows ≡ chosen_rows ports (map (λ a. (a.0, opening_machine (Some a.1) (neighbours ports))) rows)
  entries_local [] = refl
  entries_local (a ∷ rest) = λ z. (a.0, sym (entry_local a.1) z) ∷ entries_local rest z

  -- its costs are at most the greatest
  cheap_made : IsCheap (machine_of r p)
  cheap_made = subst IsCheap (sym opens) (record {
    of_ports = λ q n at. (first_port q n at).small;
    at_home = λ c is. (row_cost p (map attachment_row attachments) attachment_costs c is).small;
  })

  -- it keeps what a router keeps
  kept_made : RouterKept p r
  kept_made = record {
    ripe_within = omega arith;
    sorted = sorted-map prefix_cmp (λ (c : ℕ). opening_machine (Some c) (neighbours ports)) homes ∙ sorted-rows_of (map attachment_row attachments);
    published_sorted = sorted-map prefix_cmp (λ (c : ℕ). Entry.Local) homes ∙ sorted-rows_of (map attachment_row attachments);
    control_is = entries_local homes;
    published_heard = λ none. find-map prefix_cmp (λ (c : ℕ). Entry.Local) p homes ∙ by_row home (sym (find-map prefix_cmp (λ (c : ℕ). opening_machine (Some c) (neighbours ports)) p homes) ∙ none);
    faces_are = ap (λ (m : Machine). faces m.ports) opens ∙ faces_opened ports;
  }
    where
      by_row : (o : Option ℕ) → option_map (λ c. opening_machine (Some c) (neighbours ports)) o ≡ None → ◌≡◌ {A = Option Entry} (option_map (λ c. Entry.Local) o) None
      by_row None e = refl
      by_row (Some c) e = absurd (None_not_Some (sym e))

  no_hop : next_hop_at p r ≡ None
  no_hop = ap (option_and_then next_hop) (find-map prefix_cmp (λ (c : ℕ). Entry.Local) p homes) ∙ by_row home
    where
      by_row : (o : Option ℕ) → option_and_then next_hop (option_map (λ c. Entry.Local) o) ≡ None
      by_row None = refl
      by_row (Some c) = refl

  -- none of its ports is up
  none_up_made : (q : ℕ) → is_up_at (machine_of r p) q ≡ false
  none_up_made q = ap (λ (m : Machine). is_up_at m q) opens ∙ by_port (slice_get (neighbours ports) q) refl
    where
      by_port : (o : Option Neighbour) → slice_get (neighbours ports) q ≡ o → test_at (λ (n : Neighbour). n.up) o ≡ false
      by_port None is = refl
      by_port (Some n) is = (first_port q n is).is_down

  -- each of its ports was in no session
  never_made : (q : ℕ) → session_at ports q ≡ 0
  never_made q = ap (λ o. option_map_or (λ (x : Port). x.session) o 0) (slice_get-map unused_port costs q) ∙ by_cost (slice_get costs q)
    where
      by_cost : (o : Option ℕ) → option_map_or (λ (x : Port). x.session) (option_map unused_port o) 0 ≡ 0
      by_cost None = refl
      by_cost (Some c) = refl

-- what is known of a router as it is made
pub record Made (p : Prefix) (r : Router) : Type 0 where
  pub sound : IsSound (machine_of r p)
  -- its machine is as it opens
  pub home : Option ℕ
  pub neighbours_are : List Neighbour
  pub opened : machine_of r p ≡ opening_machine home neighbours_are
  pub keeps : RouterKept p r
  pub cheap : IsCheap (machine_of r p)
  pub no_hop_is : next_hop_at p r ≡ None
  pub none_up : (q : ℕ) → is_up_at (machine_of r p) q ≡ false
  pub passive : is_active (machine_of r p) ≡ false
  pub holds_none : (r.gate).held ≡ []
  pub never : (q : ℕ) → session_at r.ports q ≡ 0

pub made : (p : Prefix) (r : Router) → IsMade r → Made p r
made p r M = subst (Made p) (sym M.made) (record {
  sound = sound_made p M.costs M.attachments M.good;
  home = row_of prefix_cmp p (rows_of (map attachment_row M.attachments));
  neighbours_are = neighbours (map unused_port M.costs);
  opened = opens p M.costs M.attachments M.good;
  keeps = kept_made p M.costs M.attachments M.good;
  cheap = cheap_made p M.costs M.attachments M.good;
  no_hop_is = no_hop p M.costs M.attachments M.good;
  none_up = none_up_made p M.costs M.attachments M.good;
  passive = ap is_active (opens p M.costs M.attachments M.good);
  holds_none = refl;
  never = never_made p M.costs M.attachments M.good;
})

-- ---- all routers

module _ (t : Topology) (p : Prefix) (w : Processes) (B : IsOpening w) where
  known : (i : ℕ) → Made p (w.routers i)
  known i = made p (w.routers i) (B.routers_made i)

  -- its feasible distance counts as published
  abbrev fds : ℕ → ℕ
  fds = first_fds p w

  -- no router is in a session
  off : (e : LinkEnd) (n : ℕ) → is_port_in p (router_at w e) e.port n ≡ false
  off e n = and_left (is_up_at (machine_of (router_at w e) p) e.port) (session_of w e == n) ((known e.router).none_up e.port)

  -- nothing is held for a port
  ripe_empty : (i q : ℕ) → kept p q (ripe_of (w.routers i)) ≡ []
  ripe_empty i q = ap (λ hs. kept p q (take ((w.routers i).gate).ripe hs)) (known i).holds_none ∙ ap (kept p q) (take-nil ((w.routers i).gate).ripe)

  -- or held back
  unripe_empty : (i q : ℕ) → kept p q (unripe_of (w.routers i)) ≡ []
  unripe_empty i q = ap (λ hs. kept p q (drop ((w.routers i).gate).ripe hs)) (known i).holds_none ∙ ap (kept p q) (drop-nil ((w.routers i).gate).ripe)

  -- nothing is on its way from an end
  nothing_out : (n : ℕ) (e : LinkEnd) → pipe (end_from t p n fds w e) ≡ []
  nothing_out n e =
      (λ z. (messages (arriving_in n (carried p (B.nothing_comes (t.far e) z))) ++ live n (ripe_empty e.router e.port z)) ++ live n (unripe_empty e.router e.port z))

  -- a published row shows no port
  hidden : (n : ℕ) (e : LinkEnd) → (end_from t p n fds w e).shown ≡ false
  hidden n e = ap (λ o. is_next_hop e.port n o) (known e.router).no_hop_is

  -- the feasible distance is at most infinity
  bounded : (i : ℕ) → fds i ≤ infinity
  bounded i = (let a = ((known i).sound).fd_below in let b = ((known i).sound).rd_bounded in omega (arith, a, b))

  -- the invariant holds where routers begin
  pub begins_kept : Invariant t p (first_fds p w) w
  begins_kept = record {
    sound = λ i. (known i).sound;
    pfd_bounded = bounded;
    keeps = λ i. (known i).keeps;
    ripe_lawful = λ i q. rw (ripe_empty i q) tt;
    unripe_lawful = λ i q. rw (unripe_empty i q) tt;
    last_is = λ e. (let z = (known e.router).never e.port in omega (arith, z));
    coming_lawful = λ e. rw (B.nothing_comes e) tt;
    cheap = λ i. (known i).cheap;
    told = λ e v n whole one two. record { last_is = λ on. absurd (both_ways (is_port_in p (router_at w (t.far e)) (t.far e).port n) (off (t.far e) n) on); answers = record { answered = (let a : one_if (end_from t p n fds w e).awaits ≡ 0 = ap one_if (and_left (is_port_in p (router_at w e) e.port n) (awaits (machine_of (router_at w e) p) e.port) (off e n)) in omega (arith, a)) } };
    links = λ e v n one two.
        let f = t.far e in
        let mx = machine_of (router_at w e) p in
        let my = machine_of (router_at w f) p in
        end_invariant_new (end_from t p n fds w e) (end_from t p n fds w f) (off e n) (nothing_out n e) (nothing_out n f) (off f n)
        (and_left (is_port_in p (router_at w e) e.port n) (is_port e.port mx.successor) (off e n))
        (hidden n e)
        (and_left (is_port_in p (router_at w e) e.port n) (awaits mx e.port) (off e n))
        (and_left (is_port_in p (router_at w f) f.port n) (owes_port my f.port) (off f n))
        (bounded e.router);
    alone = λ e v n left two. record {
      shown_current = λ s. absurd (both_ways (end_from t p n fds w e).shown (hidden n e) s);
      published_edge_falls = λ s. absurd (both_ways (end_from t p n fds w e).shown (hidden n e) s);
      replies_awaited = (let none = ap (count Reply) (nothing_out n e) in omega (arith, none));
      queries_once = (let none = ap (count Query) (nothing_out n e) in let l = one_if_at_most_one (end_from t p n fds w (t.far e)).owes in omega (arith, none, l));
      published_edge_waits = λ a s. absurd (both_ways (end_from t p n fds w e).shown (hidden n e) s);
    };
  }
