-- What a router does with what it is told, as one prefix sees it.
use Rattle.std.proofs.Common.{refl, ap, ◌∙◌, arith, length-append, ◌≡◌, ℕ, ◌≤◌, Bool, true, false, List, [], ◌∷◌, map, length, None}
use Rattle.no_packet_loops.proofs.Common.{Prefix, prefix_cmp, prefix_eq, Machine, reactions, changed_at, Neighbour, Event, Held, Port, Router, neighbours, machine_of, with_machines, router_noticing, router_meeting, chosen_rows, machine_laws, records_after, find as row_of, is_sorted}
use Rattle.no_packet_loops.proofs.Machines.{StaysOpened, sent}
use Rattle.no_packet_loops.proofs.Reacting.{MetKeeping, UnmovedKeeping, machines', machine_noticed, unheard_noticed, sorted_noticed, met_notice, rows, more, sorted_met, unheard_met, machine_met, met_here, machine_apart, unmoved_apart}

-- whether a port is up, and its cost, as a machine has it
abbrev pub face : Neighbour → Bool × ℕ
face n = (n.up, n.cost)

-- as the router has it
abbrev pub port_face : Port → Bool × ℕ
port_face x = (x.up, x.cost)

-- so of all ports of a machine
abbrev pub faces : List Neighbour → List (Bool × ℕ)
faces ns = map face ns

-- so of all ports of a router
abbrev pub port_faces : List Port → List (Bool × ℕ)
port_faces ports = map port_face ports

-- a machine as it opens knows its router's ports
pub faces_opened : (ports : List Port) → faces (neighbours ports) ≡ port_faces ports
faces_opened [] = refl
faces_opened (x ∷ xs) = ap (λ bs. port_face x ∷ bs) (faces_opened xs)

-- what a router keeps for the prefix: sorted rows that follow its machines, and a machine that knows its ports
pub record RouterKept (p : Prefix) (r : Router) : Type 0 where
  pub ripe_within : (r.gate).ripe ≤ length (r.gate).held
  pub sorted : is_sorted prefix_cmp r.machines ≡ true
  pub published_sorted : is_sorted prefix_cmp (r.table).published ≡ true
  pub control_is : (r.table).control ≡ chosen_rows r.ports r.machines
  -- where it has no machine for the prefix, it has published no row
  pub published_heard : row_of prefix_cmp p r.machines ≡ None → row_of prefix_cmp p (r.table).published ≡ None
  pub faces_are : faces (machine_of r p).ports ≡ port_faces r.ports

-- from r to r' the machine of the prefix meets the event, and what a router keeps is kept
abbrev pub Met : Prefix → Event → Router → Router → Type 0
Met p e r r' = MetKeeping (RouterKept p) p e r r'

-- from r to r' nothing of the prefix changes
abbrev pub Unmoved : Prefix → Router → Router → Type 0
Unmoved p r r' = UnmovedKeeping (RouterKept p) p r r'

-- the router with these ports and machines, that holds these messages more, keeps what a router keeps, if its machines do
keeps_new : (p : Prefix) (r : Router) → RouterKept p r → (ports : List Port) (machines : List (Prefix × Machine)) (new : List Held)
    → is_sorted prefix_cmp machines ≡ true → (row_of prefix_cmp p machines ≡ None → row_of prefix_cmp p r.machines ≡ None)
    → faces (machine_of (with_machines ports machines new r) p).ports ≡ port_faces ports → RouterKept p (with_machines ports machines new r)
keeps_new p r R ports machines new sorted unheard knows = record {
  ripe_within = (let le = R.ripe_within in omega (arith, le, length-append (r.gate).held new));
  sorted = sorted;
  published_sorted = R.published_sorted;
  control_is = refl;
  published_heard = λ none. R.published_heard (unheard none);
  faces_are = knows;
}

-- ---- notices

-- at an event that changes a port's record as the router's port is changed, machine and router know their ports alike
pub record Alike (e : Event) (q : ℕ) (change : Port → Port) (ns : List Neighbour) (ports : List Port) : Type 0 where
  pub faces_after : faces ns ≡ port_faces ports → faces (records_after e ns) ≡ port_faces (changed_at q change ports)

-- a router that takes a notice reacts to it
pub meets_notice : (p : Prefix) (r : Router) → RouterKept p r → (q : ℕ) (e : Event) (change : Port → Port) → StaysOpened e q change r.ports → Alike e q change (machine_of r p).ports r.ports
    → Met p e r (router_noticing e (changed_at q change r.ports) r)
meets_notice p r R q e change S A = met_notice p r R.ripe_within R.sorted q e change S (RouterKept p)
    (keeps_new p r R (changed_at q change r.ports) (machines' p r R.ripe_within R.sorted q e change S) (sent p 0 (changed_at q change r.ports) (reactions e r.machines))
    (sorted_noticed p r R.ripe_within R.sorted q e change S)
    (unheard_noticed p r R.ripe_within R.sorted q e change S)
    (ap (λ (m : Machine). faces m.ports) (machine_noticed p r R.ripe_within R.sorted q e change S) ∙ ap faces (machine_laws.keeps_records (machine_of r p) e) ∙ A.faces_after R.faces_are))

-- ---- an event of one prefix

-- an event that leaves which ports are up, and their costs
pub record LeavesFaces (e : Event) (ns : List Neighbour) : Type 0 where
  pub faces_same : faces (records_after e ns) ≡ faces ns

module _ (p : Prefix) (r : Router) (R : RouterKept p r) (k : Prefix) (e : Event) where
  -- it keeps what a router keeps, if the machine of the prefix knows its ports
  keeps_met : faces (machine_of (router_meeting k e r) p).ports ≡ port_faces r.ports → RouterKept p (router_meeting k e r)
  keeps_met knows = keeps_new p r R r.ports (rows p r R.ripe_within R.sorted k e) (more p r R.ripe_within R.sorted k e) (sorted_met p r R.ripe_within R.sorted k e) (unheard_met p r R.ripe_within R.sorted k e) knows

  -- a router where the machine of this prefix meets the event
  pub meets_here : LeavesFaces e (machine_of r p).ports → prefix_eq p k ≡ true → Met p e r (router_meeting k e r)
  meets_here L same = met_here p r R.ripe_within R.sorted k e same (RouterKept p) (keeps_met
      (ap (λ (m : Machine). faces m.ports) (machine_met p r R.ripe_within R.sorted k e same) ∙ ap faces (machine_laws.keeps_records (machine_of r p) e) ∙ L.faces_same ∙ R.faces_are))

  -- a router where the machine of another prefix meets the event changes nothing of this one
  pub unmoved_elsewhere : prefix_eq p k ≡ false → Unmoved p r (router_meeting k e r)
  unmoved_elsewhere apart = unmoved_apart p r R.ripe_within R.sorted k e apart (RouterKept p) (keeps_met (ap (λ (m : Machine). faces m.ports) (machine_apart p r R.ripe_within R.sorted k e apart) ∙ R.faces_are))
