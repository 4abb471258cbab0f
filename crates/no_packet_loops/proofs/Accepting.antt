-- What a router of a network does with an item, as one prefix sees it, and that it keeps what a router keeps.
use Rattle.std.proofs.Common.{refl, sym, ap, ◌∙◌, arith, length-append, ◌≡◌, ◌≢◌, ℕ, ◌<◌, true, false, List, [], ◌++◌, length, Some, None, slice_get, option_map, get_or}
use Rattle.no_packet_loops.proofs.Common.{option_map_or, slice_get-get_or, Prefix, prefix_cmp, prefix_eq, Machine, reaction, reactions, changed_at, Neighbour, Event, Outgoing, Message, Held, Port, Router, Network, machine_of, session_at, with_machines, router_noticing, router_meeting, router_told, length-changed_at, slice_get-changed_at, slice_get-changed_at_other, sent_to, machine_laws, event_of, seen_after, held_for, SeenItem, Reported, at_port, msg_of, kept, lay, is_sorted, ports_length as records_length}
use Rattle.loop_freedom.proofs.Ports.{ports_length}
use Rattle.no_packet_loops.proofs.{View.kept-append, Machines.StaysOpened, Machines.sent, Kept.RouterKept}
use Rattle.no_packet_loops.proofs.Reacting.{MetKeeping, UnmovedKeeping, machines', machine_noticed, sorted_noticed, sends_noticed, met_notice, rows, more, sorted_met, machine_met, sends_met, met_here, machine_apart, sends_apart, unmoved_apart}

-- nothing is sent to a port that is not there
abbrev pub Silent : Network → ℕ → List Outgoing → Type 0
Silent n i sends = (j : ℕ) → lay n (at_port i j) ≡ None → sent_to j sends ≡ []

-- from r to r' the machine of the prefix meets the event; where it is silent at such ports, what a router keeps is kept
abbrev pub Met : Network → Prefix → ℕ → Event → Router → Router → Type 0
Met n p i e r r' = MetKeeping (λ z. Silent n i (reaction (machine_of r p) e).sends → RouterKept n p i z) p e r r'

-- from r to r' nothing of the prefix changes
abbrev pub Unmoved : Network → Prefix → ℕ → Router → Router → Type 0
Unmoved n p i r r' = UnmovedKeeping (RouterKept n p i) p r r'

-- from r to r' the machine of the prefix reacts to the item, and its port's session is the one seen after it
pub record Reacted (n : Network) (p : Prefix) (i q : ℕ) (item : SeenItem) (r r' : Router) : Type 0 where
  pub met : Met n p i (event_of q item) r r'
  pub seen_here : session_at r'.ports q ≡ seen_after item (session_at r.ports q)
  pub seen_beside : (j : ℕ) → j ≢ q → session_at r'.ports j ≡ session_at r.ports j

-- a router with new ports, machines and messages keeps what a router keeps, if the machines do and no message is without a port
keeps_new : (n : Network) (p : Prefix) (i : ℕ) (r : Router) → RouterKept n p i r → (ports : List Port) (machines : List (Prefix × Machine)) (new : List Held)
    → is_sorted prefix_cmp machines ≡ true → length ports ≡ length r.ports → length (machine_of (with_machines ports machines new r) p).ports ≡ length ports
    → ((j : ℕ) → lay n (at_port i j) ≡ None → kept p j new ≡ []) → RouterKept n p i (with_machines ports machines new r)
keeps_new n p i r R ports machines new sorted count opens none = record {
  ripe_within = (let le = R.ripe_within in omega (arith, le, length-append (r.gate).held new));
  sorted = sorted;
  published_sorted = R.published_sorted;
  control_is = refl;
  port_count = count ∙ R.port_count;
  machine_ports = opens;
  placed = λ j out. kept-append p j (r.gate).held new ∙ ap (λ xs. xs ++ kept p j new) (R.placed j out) ∙ none j out;
}

-- where nothing is sent, nothing is held
held_none : (s : ℕ) (ss : List Outgoing) → ss ≡ [] → held_for s ss ≡ []
held_none s ss e = ap (held_for s) e

-- ---- notices

-- the session seen at a port that a notice changed is that of the notice
session_changed : (q : ℕ) (change : Port → Port) (ports : List Port) → q < length ports → (s : ℕ) → ((x : Port) → slice_get ports q ≡ Some x → (change x).session ≡ s) → session_at (changed_at q change ports) q ≡ s
session_changed q change ports lt s sees =
    let x : Port = get_or ports q (record { up = false; session = 0; cost = 0 }) in
    let at : slice_get ports q ≡ Some x = slice_get-get_or ports q (record { up = false; session = 0; cost = 0 }) lt in
    ap (λ o. option_map_or (λ (y : Port). y.session) o 0) (slice_get-changed_at change q ports ∙ ap (option_map change) at) ∙ sees x at

module _ (n : Network) (p : Prefix) (i : ℕ) (r : Router) (R : RouterKept n p i r) (q : ℕ) (there : q < length r.ports)
    (item : SeenItem) (change : Port → Port) (S : StaysOpened (event_of q item) q change r.ports) (sees : (x : Port) → slice_get r.ports q ≡ Some x → (change x).session ≡ seen_after item x.session) where
  abbrev e : Event
  e = event_of q item

  -- the ports after the notice
  abbrev ports' : List Port
  ports' = changed_at q change r.ports

  -- the session that the notice leaves at its port is the one seen after it
  session_was : (x : Port) → slice_get r.ports q ≡ Some x → (change x).session ≡ seen_after item (session_at r.ports q)
  session_was x at = sees x at ∙ ap (seen_after item) (sym (ap (λ o. option_map_or (λ (y : Port). y.session) o 0) at))

  -- a notice leaves the number of ports
  counts : length ports' ≡ length r.ports
  counts = length-changed_at change q r.ports

  -- the machine of the prefix has as many neighbours as the router has ports
  machine_counts : length (machine_of (router_noticing e ports' r) p).ports ≡ length ports'
  machine_counts =
      ap (λ (m : Machine). length m.ports) (machine_noticed p r R.ripe_within R.sorted q e change S)
      ∙ ap (λ (ns : List Neighbour). length ns) (machine_laws.keeps_records (machine_of r p) e)
      ∙ ports_length q item (machine_of r p).ports ∙ R.machine_ports ∙ sym counts

  -- a router that takes a notice reacts to it
  pub reacts_to_notice : Reacted n p i q item r (router_noticing e ports' r)
  reacts_to_notice = record {
    met = met_notice p r R.ripe_within R.sorted q e change S (λ z. Silent n i (reaction (machine_of r p) e).sends → RouterKept n p i z)
        (λ silent. keeps_new n p i r R ports' (machines' p r R.ripe_within R.sorted q e change S) (sent p 0 ports' (reactions e r.machines)) (sorted_noticed p r R.ripe_within R.sorted q e change S) counts machine_counts
        (λ j out. sends_noticed p r R.ripe_within R.sorted q e change S j ∙ held_none (session_at ports' j) (sent_to j (reaction (machine_of r p) e).sends) (silent j out)));
    seen_here = session_changed q change r.ports there (seen_after item (session_at r.ports q)) session_was;
    seen_beside = λ j apart. ap (λ o. option_map_or (λ (y : Port). y.session) o 0) (slice_get-changed_at_other change q j r.ports apart);
  }

-- ---- an event of one prefix

module _ (n : Network) (p : Prefix) (i : ℕ) (r : Router) (R : RouterKept n p i r) (k : Prefix) (e : Event) where
  -- it keeps what a router keeps, if the machine of the prefix does and nothing is for a port that is not there
  keeps_met : length (machine_of (router_meeting k e r) p).ports ≡ length r.ports → ((j : ℕ) → lay n (at_port i j) ≡ None → kept p j (more p r R.ripe_within R.sorted k e) ≡ []) → RouterKept n p i (router_meeting k e r)
  keeps_met counts none = keeps_new n p i r R r.ports (rows p r R.ripe_within R.sorted k e) (more p r R.ripe_within R.sorted k e) (sorted_met p r R.ripe_within R.sorted k e) refl counts none

  -- a router where the machine of this prefix meets the event
  pub meets_here : prefix_eq p k ≡ true → Met n p i e r (router_meeting k e r)
  meets_here same = met_here p r R.ripe_within R.sorted k e same (λ z. Silent n i (reaction (machine_of r p) e).sends → RouterKept n p i z) (λ silent. keeps_met
      (ap (λ (y : Machine). length y.ports) (machine_met p r R.ripe_within R.sorted k e same)
      ∙ ap (λ (ns : List Neighbour). length ns) (machine_laws.keeps_records (machine_of r p) e)
      ∙ records_length e (machine_of r p).ports ∙ R.machine_ports)
      (λ j out. sends_met p r R.ripe_within R.sorted k e same j ∙ held_none (session_at r.ports j) (sent_to j (reaction (machine_of r p) e).sends) (silent j out)))

  -- a router where the machine of another prefix meets the event changes nothing of this one
  pub unmoved_elsewhere : prefix_eq p k ≡ false → Unmoved n p i r (router_meeting k e r)
  unmoved_elsewhere apart = unmoved_apart p r R.ripe_within R.sorted k e apart (RouterKept n p i) (keeps_met
      (ap (λ (y : Machine). length y.ports) (machine_apart p r R.ripe_within R.sorted k e apart) ∙ R.machine_ports)
      (λ j out. sends_apart p r R.ripe_within R.sorted k e apart j))

-- ---- messages

module _ (n : Network) (p : Prefix) (i : ℕ) (r : Router) (R : RouterKept n p i r) (q : ℕ) (m : Message) where
  -- a router that takes a message of the prefix reacts to it
  pub reacts_to_message : prefix_eq p m.prefix ≡ true → Reacted n p i q (Reported (msg_of m)) r (router_told q m r)
  reacts_to_message same = record { met = meets_here n p i r R m.prefix (Event.Message q m.kind m.value) same; seen_here = refl; seen_beside = λ j apart. refl }

  -- a router that takes a message of another prefix changes nothing of this one
  pub unmoved_by_message : prefix_eq p m.prefix ≡ false → Unmoved n p i r (router_told q m r)
  unmoved_by_message apart = unmoved_elsewhere n p i r R m.prefix (Event.Message q m.kind m.value) apart
