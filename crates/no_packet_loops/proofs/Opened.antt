-- The view of the opening of a network is an opening.
use Rattle.std.proofs.Common.{refl, sym, ap, subst, ◌∙◌, arith, ◌≡◌, ℕ, suc, ◌<◌, ◌==◌, if◌then◌else◌, filter, Bool, true, false, cond, List, [], ◌∷◌, map, length, Option, Some, None, is_some, slice_get, option_map, option_and_then, unwrap_or, eq-eqb}
use Rattle.no_packet_loops.proofs.Common.{range_with_len, option_map_or, find-put, length-map, false≢true, slice_get-map, slice_get_within, Prefix, prefix_cmp, prefix_eq, Machine, opening_machine, Neighbour, infinity, IsCost, Entry, End, A, B, Link, Router, Attachments, Network, side, neighbours, machine_of, places_from, opening_link, opening_port, rows_of, costs_of, opening, Place, Port, LinkSpec, session_at, entry_of, chosen_rows, Some_injective, None_not_Some, listed_at, listed_within, prefix_cmp_total, Opening, OpeningPorts, find-map, sorted-map, sorted-rows_of, LinkEnd, State, at_port, next_hop, on_link, inbox_of, kept, ripe_of, unripe_of, next_hop_at, view, lay, find as row_of, opening_router_of}
use Rattle.no_packet_loops.proofs.{Wiring.IsWiredLink, Wiring.IsWired, Places.laid, Places.topology, View.on_link-there, View.on_router-there}
use Rattle.no_packet_loops.proofs.Kept.{ends, spec_ends, RouterKept, AttachmentsKept, WorldKept}

-- ---- the attachments of one router at the start

-- a cost among those of a router's attachments is that of an attachment of the list
cost_listed : (P : ℕ → Type 0) (p : Prefix) (i : ℕ) (xs : List (Prefix × ℕ × ℕ)) → ((k : ℕ) (x : Prefix × ℕ × ℕ) → slice_get xs k ≡ Some x → P x.2)
    → (c : ℕ) → row_of prefix_cmp p (rows_of (map (λ x. (x.0, x.2)) (filter (λ x. x.1 == i) xs))) ≡ Some c → P c
cost_listed P p i [] all c is = absurd (None_not_Some is)
cost_listed P p i (x ∷ xs) all c is = by_router (cost_listed P p i xs (λ k. all (suc k)) c) (x.1 == i) is
  where
    by_key : (row_of prefix_cmp p (rows_of (map (λ y. (y.0, y.2)) (filter (λ y. y.1 == i) xs))) ≡ Some c → P c) → (b : Bool) → cond b (Some x.2) (row_of prefix_cmp p (rows_of (map (λ y. (y.0, y.2)) (filter (λ y. y.1 == i) xs)))) ≡ Some c → P c
    by_key rest true e = subst P (Some_injective e) (all 0 x refl)
    by_key rest false e = rest e

    by_router : (row_of prefix_cmp p (rows_of (map (λ y. (y.0, y.2)) (filter (λ y. y.1 == i) xs))) ≡ Some c → P c)
        → (b : Bool) → row_of prefix_cmp p (rows_of (map (λ y. (y.0, y.2)) (cond b (x ∷ filter (λ y. y.1 == i) xs) (filter (λ y. y.1 == i) xs)))) ≡ Some c → P c
    by_router rest true e = by_key rest (prefix_eq p x.0) (sym (find-put prefix_cmp prefix_cmp_total p x.0 x.2 (rows_of (map (λ y. (y.0, y.2)) (filter (λ y. y.1 == i) xs)))) ∙ e)
    by_router rest false e = rest e

module _ (n : Network) (N : IsWired n) (p : Prefix) where
  -- the links of the world at the start
  abbrev links : List Link
  links = map opening_link n.links

  -- the ports of router i at the start
  abbrev ports_of : ℕ → List Port
  ports_of i = map (opening_port links) (places_from 0 i n.links)

  -- router i at the start
  abbrev first : ℕ → Router
  first i = opening_router_of n i

  -- ---- machines

  -- the cost of router i's attachment at the start
  abbrev home_of : ℕ → Option ℕ
  home_of i = row_of prefix_cmp p (costs_of n i)

  home_cost : (i c : ℕ) → home_of i ≡ Some c → IsCost c
  home_cost i c is = cost_listed IsCost p i n.attachments N.attachment_costs c is

  -- each machine at the start is as opened with its attachment over the ports of its router
  opens : (i : ℕ) → machine_of (first i) p ≡ opening_machine (home_of i) (neighbours (ports_of i))
  opens i = ap (λ o. unwrap_or o (opening_machine None (neighbours (ports_of i)))) (find-map prefix_cmp (λ (c : ℕ). opening_machine (Some c) (neighbours (ports_of i))) p (costs_of n i)) ∙ by_row (home_of i)
    where
      by_row : (o : Option ℕ) → unwrap_or (option_map (λ c. opening_machine (Some c) (neighbours (ports_of i))) o) (opening_machine None (neighbours (ports_of i))) ≡ opening_machine o (neighbours (ports_of i))
      by_row None = refl
      by_row (Some c) = refl

  -- router i has as many ports as the network has places for it
  count_of : (i : ℕ) → length (ports_of i) ≡ length (places_from 0 i n.links)
  count_of i = length-map (places_from 0 i n.links) (opening_port links)

  -- each machine has as many neighbours as its router has ports
  machine_count : (i : ℕ) → length (machine_of (first i) p).ports ≡ length (ports_of i)
  machine_count i = ap (λ (m : Machine). length m.ports) (opens i) ∙ length-map (ports_of i) (λ (x : Port). record { up = x.up; cost = x.cost; reported = infinity })

  -- the entry of a machine as opened with an attachment is Local
  entry_local : (i c : ℕ) → entry_of (ports_of i) (opening_machine (Some c) (neighbours (ports_of i))) ≡ Entry.Local
  entry_local i c = ap (λ b. if b then Entry.Local else Entry.Via (length (neighbours (ports_of i))) (session_at (ports_of i) (length (neighbours (ports_of i))))) (eq-eqb (length (neighbours (ports_of i))) (length (neighbours (ports_of i))) refl)

  -- router i at the start keeps what a router keeps
  first_kept : (i : ℕ) → RouterKept n p i (first i)
  first_kept i = record {
    ripe_within = omega arith;
    sorted = sorted-map prefix_cmp (λ (c : ℕ). opening_machine (Some c) (neighbours (ports_of i))) (costs_of n i) ∙ sorted-rows_of (map (λ a. (a.0, a.2)) (filter (λ a. a.1 == i) n.attachments));
    published_sorted = sorted-map prefix_cmp (λ (c : ℕ). Entry.Local) (costs_of n i) ∙ sorted-rows_of (map (λ a. (a.0, a.2)) (filter (λ a. a.1 == i) n.attachments));
    control_is = entries_local (costs_of n i);
    port_count = count_of i;
    machine_ports = machine_count i;
    placed = λ q out. refl;
  }
    where
      entries_local : (rows : List (Prefix × ℕ)) → map (λ a. (a.0, Entry.Local)) rows ≡ chosen_rows (ports_of i) (map (λ a. (a.0, opening_machine (Some a.1) (neighbours (ports_of i)))) rows)
      entries_local [] = refl
      entries_local (a ∷ rest) = λ z. (a.0, sym (entry_local i a.1) z) ∷ entries_local rest z

  -- the links at the start end at the routers of the links of the network
  ends_first : (ss : List LinkSpec) → map ends (map opening_link ss) ≡ map spec_ends ss
  ends_first [] = refl
  ends_first (s ∷ ss) = ap (λ xs. (s.a, s.b) ∷ xs) (ends_first ss)

  -- the attachment of each machine at the start is that of the record, and no notice waits
  first_attached : (i : ℕ) → AttachmentsKept p (first i) (record { costs = costs_of n i; notices = [] })
  first_attached i = record {
    leads = ap (λ (m : Machine). m.attachment) (opens i);
    costs = home_cost i;
    notice_costs = λ k x at. absurd (None_not_Some at);
  }

  -- the world at the start keeps what a world keeps
  pub opening_kept : WorldKept n p (opening n)
  opening_kept = record {
    places_same = refl;
    ends_same = ends_first n.links;
    routers_kept = λ i r at. (let e = listed_within first n.routers i r at in subst (λ (x : Router). RouterKept n p i x) e.1 (first_kept i));
    attachments_kept = λ i r a at has.
        let e = listed_within first n.routers i r at in
        let f = listed_within (λ (j : ℕ). record { costs = costs_of n j; notices = [] }) n.routers i a has in
        subst (λ (x : Router). AttachmentsKept p x a) e.1 (subst (λ (x : Attachments). AttachmentsKept p (first i) x) f.1 (first_attached i));
  }

  -- ---- ports

  -- the cost from each end of a wired link is positive
  cost_at : (s : LinkSpec) → IsWiredLink n.routers s → (e : End) → 0 < (side e (opening_link s)).cost
  cost_at s L A = L.from_a_costs
  cost_at s L B = L.from_b_costs

  -- the neighbour is down, its link costs something, and it reported nothing
  record FirstPort (nb : Neighbour) : Type 0 where
    is_down : nb.up ≡ false
    costs : 0 < nb.cost
    silent : nb.reported ≡ infinity

  -- each link of the network is there at the start, as opened
  link_there : (l : ℕ) (s : LinkSpec) → slice_get n.links l ≡ Some s → slice_get links l ≡ Some (opening_link s)
  link_there l s is = slice_get-map opening_link n.links l ∙ ap (option_map opening_link) is

  -- each neighbour at the start is down, its link costs something, and it reported nothing
  first_port : (i : ℕ) → i < n.routers → (q : ℕ) (nb : Neighbour) → slice_get (neighbours (ports_of i)) q ≡ Some nb → FirstPort nb
  first_port i lt q nb e = by_place (slice_get (places_from 0 i n.links) q) refl
      (sym (slice_get-map (λ (x : Port). record { up = x.up; cost = x.cost; reported = infinity }) (ports_of i) q ∙ ap (option_map (λ (x : Port). record { up = x.up; cost = x.cost; reported = infinity })) (slice_get-map (opening_port links) (places_from 0 i n.links) q)) ∙ e)
    where
      one : (x : Place) → slice_get (places_from 0 i n.links) q ≡ Some x → 0 < (opening_port links x).cost
      one x at =
          let L = laid n (at_port i q) x (ap (option_and_then (λ (ps : List Place). slice_get ps q)) (listed_at (λ y. places_from 0 y n.links) n.routers i lt) ∙ at) in
          let same : (opening_port links x).cost ≡ (side x.end (opening_link L.spec)).cost = ap (λ o. option_map_or (λ (k : Link). (side x.end k).cost) o 0) (link_there x.link L.spec L.is_link) in
          let positive : 0 < (side x.end (opening_link L.spec)).cost = cost_at L.spec (N.are_links x.link L.spec L.is_link) x.end in
          omega (arith, same, positive)

      by_place : (o : Option Place) → slice_get (places_from 0 i n.links) q ≡ o → option_map (λ (x : Port). record { up = x.up; cost = x.cost; reported = infinity }) (option_map (opening_port links) o) ≡ Some nb → FirstPort nb
      by_place None at h = absurd (None_not_Some h)
      by_place (Some x) at h = subst FirstPort (Some_injective h) (record { is_down = refl; costs = one x at; silent = refl })

  -- the feasible distance of each router at the start, which counts as published
  abbrev pub first_fd : ℕ → ℕ
  first_fd i = (option_map_or (λ (r : Router). machine_of r p) (slice_get (opening n).routers i) (opening_machine None [])).fd

  -- the view at the start
  abbrev s : State
  s = view n p (opening n) first_fd

  -- where f says d of each router as opened, it says d of every router at the start, also of one that is not there
  all_routers : {X : Type 0} (f : Router → X) (d : X) → ((i : ℕ) → f (first i) ≡ d) → (j : ℕ) → option_map_or f (slice_get (opening n).routers j) d ≡ d
  all_routers f d same j = ap (λ o. option_map_or f o d) (slice_get-map first (range_with_len 0 n.routers) j) ∙ by_number (slice_get (range_with_len 0 n.routers) j)
    where
      by_number : (o : Option ℕ) → option_map_or f (option_map first o) d ≡ d
      by_number None = refl
      by_number (Some i) = same i

  -- where f says d of each link as opened, it says d of every link at the start, also of one that is not there
  all_links : {X : Type 0} (f : End → Link → X) (d : X) → ((e : End) (x : LinkSpec) → f e (opening_link x) ≡ d) → (o : Option Place) → on_link f d o links ≡ d
  all_links f d same None = refl
  all_links f d same (Some x) = ap (λ o. option_map_or (f x.end) o d) (slice_get-map opening_link n.links x.link) ∙ by_link (slice_get n.links x.link)
    where
      by_link : (o : Option LinkSpec) → option_map_or (f x.end) (option_map opening_link o) d ≡ d
      by_link None = refl
      by_link (Some y) = same x.end y

  -- no end of a link has an item to take at the start
  first_inbox : (e : End) (x : LinkSpec) → inbox_of p e (opening_link x) ≡ []
  first_inbox A x = refl
  first_inbox B x = refl

  -- every port is in session 0 at the start
  first_session : (q : ℕ) (i : ℕ) → session_at (ports_of i) q ≡ 0
  first_session q i = ap (λ o. option_map_or (λ (x : Port). x.session) o 0) (slice_get-map (opening_port links) (places_from 0 i n.links) q) ∙ by_place (slice_get (places_from 0 i n.links) q)
    where
      by_place : (o : Option Place) → option_map_or (λ (x : Port). x.session) (option_map (opening_port links) o) 0 ≡ 0
      by_place None = refl
      by_place (Some x) = refl

  -- no router has published a next hop at the start
  first_hop : (i : ℕ) → next_hop_at p (first i) ≡ None
  first_hop i = ap (option_and_then next_hop) (find-map prefix_cmp (λ (c : ℕ). Entry.Local) p (costs_of n i)) ∙ by_row (home_of i)
    where
      by_row : (o : Option ℕ) → option_and_then next_hop (option_map (λ c. Entry.Local) o) ≡ None
      by_row None = refl
      by_row (Some c) = refl

  -- the machine is as opened with its attachment over its ports, which are those of an opening
  record First (m : Machine) : Type 0 where
    is : m ≡ opening_machine m.attachment m.ports
    range : (c : ℕ) → m.attachment ≡ Some c → (0 < c) × (c < infinity)
    ports : OpeningPorts m.ports

  -- a machine as opened with an attachment over ports of an opening is such a machine
  first_of : (m : Machine) (a : Option ℕ) (ns : List Neighbour) → m ≡ opening_machine a ns → ((c : ℕ) → a ≡ Some c → IsCost c) → OpeningPorts ns → First m
  first_of m a ns is costs P = subst First (sym is) (record { is = refl; range = λ c e. (let k : IsCost c = costs c e in (k.positive, (let small = k.small in omega (arith, small)))); ports = P })

  -- no ports at all are ports of an opening
  no_ports : OpeningPorts []
  no_ports = record { ports_down = λ q x e. absurd (None_not_Some e); ports_cost = λ q x e. absurd (None_not_Some e); ports_report = λ q x e. absurd (None_not_Some e) }

  -- the ports of a router of the network are ports of an opening
  some_ports : (i : ℕ) → i < n.routers → OpeningPorts (neighbours (ports_of i))
  some_ports i lt = record {
    ports_down = λ q x e. (first_port i lt q x e).is_down;
    ports_cost = λ q x e. (first_port i lt q x e).costs;
    ports_report = λ q x e. (first_port i lt q x e).silent;
  }

  -- every machine of the view at the start is as opened over ports of an opening
  first_machine : (i : ℕ) → First (s.machine i)
  first_machine i = by_router (slice_get (opening n).routers i) refl
    where
      by_router : (o : Option Router) → slice_get (opening n).routers i ≡ o → First (option_map_or (λ (r : Router). machine_of r p) o (opening_machine None []))
      by_router None at = record { is = refl; range = λ c e. absurd (None_not_Some e); ports = no_ports }
      by_router (Some r) at =
          let e = listed_within first n.routers i r at in
          subst (λ (x : Router). First (machine_of x p)) e.1 (first_of (machine_of (first i) p) (home_of i) (neighbours (ports_of i)) (opens i) (home_cost i) (some_ports i e.0))

  -- a port that is there is a port of its machine, and costs something
  valid_there : (e : LinkEnd) → is_some (lay n e) ≡ true → (e.port < length (s.machine e.router).ports) × (0 < s.cost e)
  valid_there e v = by_place (lay n e) refl v
    where
      by_place : (o : Option Place) → lay n e ≡ o → is_some o ≡ true → (e.port < length (s.machine e.router).ports) × (0 < s.cost e)
      by_place None is h = absurd (false≢true h)
      by_place (Some x) is h =
          let L = laid n e x is in
          let lt : e.port < length (places_from 0 e.router n.links) = slice_get_within (places_from 0 e.router n.links) e.port x L.listed in
          let m : s.machine e.router ≡ machine_of (first e.router) p = on_router-there (λ (r : Router). machine_of r p) (opening_machine None []) (opening n).routers e.router (first e.router) (listed_at first n.routers e.router L.known) in
          let count : length (s.machine e.router).ports ≡ length (places_from 0 e.router n.links) = ap (λ (y : Machine). length y.ports) m ∙ machine_count e.router ∙ count_of e.router in
          let cost : s.cost e ≡ (side x.end (opening_link L.spec)).cost = on_link-there (λ en k. (side en k).cost) 0 links (lay n e) x (opening_link L.spec) is (link_there x.link L.spec L.is_link) in
          let positive : 0 < (side x.end (opening_link L.spec)).cost = cost_at L.spec (N.are_links x.link L.spec L.is_link) x.end in
          (omega (arith, lt, count), omega (arith, cost, positive))

  -- the view at the start is an opening
  pub opening_view : Opening (topology n N) (view n p (opening n) first_fd)
  opening_view = record {
    attachment = λ i. (s.machine i).attachment;
    attachment_range = λ i. (first_machine i).range;
    ports = λ i. (s.machine i).ports;
    opening_ports = λ i. (first_machine i).ports;
    ports_there = λ e v. (valid_there e v).0;
    machines = λ i. (first_machine i).is;
    seen_none = λ e. all_routers (λ r. session_at r.ports e.port) 0 (first_session e.port) e.router;
    all_down = λ e. all_links (λ en k. k.up) false (λ en x. refl) (lay n e);
    session_none = λ e. all_links (λ en k. k.session) 0 (λ en x. refl) (lay n e);
    cost_positive = λ e v. (valid_there e v).1;
    inbox_empty = λ e. all_links (inbox_of p) [] first_inbox (lay n e);
    ripe_empty = λ e. all_routers (λ r. kept p e.port (ripe_of r)) [] (λ i. refl) e.router;
    unripe_empty = λ e. all_routers (λ r. kept p e.port (unripe_of r)) [] (λ i. refl) e.router;
    nothing_published = all_routers (next_hop_at p) None first_hop;
    opening_fd = λ i. refl;
  }
