-- What a notice and an event of one prefix make of the parts of a router.
use Rattle.std.proofs.Common.{refl, sym, ap, subst, ◌∙◌, arith, ◌≡◌, ℕ, zero, suc, ◌+◌, ◌<◌, ◌≤◌, Bool, true, List, [], ◌∷◌, ◌++◌, map, length, take, drop, get_or, set, Some, None, option_map, is_some, IsSome, unwrap_or, count_by}
use Rattle.network_model.proofs.Common.{AllByRecursion, tied_itself, count_by-le-length, Prefix, prefix_cmp, Machine, reaction, changed_at, Table, Gate, Router, machine_of, chosen_rows, entry_of, held_of, router_noticing, router_meeting, with_rows, changed_at_written, map-changed_at, changed_at-map, sorted-map, find-map, prefix_cmp_total, find as row_of, put, is_sorted}
use Rattle.network_model.specs.{declared.machine.Event.Event, declared.machine.Neighbour.Neighbour, declared.network.Port.Port}
use Rattle.dual_machine.specs.{State.MachineState, Event.IsKnown, Event.IsTimely, Event.is_neighbour_up, Outbox.most_sent}
use Rattle.route_table.proofs.Places.{find-at}
use Rattle.router_core.specs.Parts.{machines_of, router_of, HasPorts, IsRouter, ups, port_ups}
use Rattle.router_core.specs.Router.{is_port_up}
use Rattle.router_core.proofs.{Ports.length-ups, Ports.up_at-ups, Meetings.reacted, Meetings.sent, Meetings.chosen, Kept.control-noticing, Kept.control-meeting}

-- ---- the machines of a router may meet the event

pub has_ports_at : (ports : List Port) (ms : List (Prefix × MachineState)) → AllByRecursion (HasPorts ports) (machines_of ms) → (k : ℕ) (d : Prefix × MachineState) → k < length ms → ups ((get_or ms k d).1).machine.ports ≡ port_ups ports
has_ports_at ports [] all k d h = absurd (omega arith)
has_ports_at ports (m ∷ ms) all zero d h = all.0
has_ports_at ports (m ∷ ms) all (suc k) d h = has_ports_at ports ms all.1 k d (omega arith)

pub timely_over : (ns : List Neighbour) (ports : List Port) (e : Event) → ups ns ≡ port_ups ports → IsTimely (is_port_up ports) e → IsTimely (is_neighbour_up ns) e
timely_over ns ports (Event.Message q kind value) same up = up_at-ups ns ports q same ∙ up
timely_over ns ports (Event.Up q cost) same down = up_at-ups ns ports q same ∙ down
timely_over ns ports (Event.Down q) same up = up_at-ups ns ports q same ∙ up
timely_over ns ports (Event.Cost q cost) same up = up_at-ups ns ports q same ∙ up
timely_over ns ports _ same tt = tt

pub known_over : (ns : List Neighbour) (ports : List Port) (e : Event) → ups ns ≡ port_ups ports → IsKnown (length ports) e → IsKnown (length ns) e
known_over ns ports e same known = subst (λ (n : ℕ). IsKnown n e) (sym (length-ups ns ports same)) known

pub most_sent_over : (ns : List Neighbour) (ports : List Port) → ups ns ≡ port_ups ports → most_sent ns ≤ length ports + 1
most_sent_over ns ports same =
    let ups_fit : count_by (λ n. n.up) ns ≤ length ns = count_by-le-length (λ n. n.up) ns in
    let as_many : length ns ≡ length ports = length-ups ns ports same in
    omega (arith, ups_fit, as_many)

-- each machine's prefix has a row
pub row_there : (ports : List Port) (ms : List (Prefix × MachineState)) → is_sorted prefix_cmp (machines_of ms) ≡ true → (k : ℕ) (d : Prefix × MachineState) → k < length ms
    → IsSome (row_of prefix_cmp (get_or ms k d).0 (chosen_rows ports (machines_of ms)))
row_there ports ms sorted k d h =
    let in_order : is_sorted prefix_cmp ms ≡ true = sym (sorted-map prefix_cmp (λ s. s.machine) ms) ∙ sorted in
    let there : row_of prefix_cmp (get_or ms k d).0 ms ≡ Some (get_or ms k d).1 = find-at prefix_cmp_total ms k (get_or ms k d).0 d in_order h (tied_itself prefix_cmp_total (get_or ms k d).0) in
    ap is_some (find-map prefix_cmp (entry_of ports) (get_or ms k d).0 (machines_of ms)
    ∙ ap (option_map (entry_of ports)) (find-map prefix_cmp (λ s. s.machine) (get_or ms k d).0 ms ∙ ap (option_map (λ (s : MachineState). s.machine)) there))

-- ---- the parts of the router then

-- a buffer of the same length, written over
pub refilled : {A : Type 0} (n : ℕ) (new old : List A) → length new ≡ length old → n ≡ length old → take n (new ++ drop (length new) old) ≡ new
refilled {A = A} n new old same is = ap (λ k. take k (new ++ drop (length new) old)) (is ∙ sym same) ∙ whole new (drop (length new) old)
  where
    whole : (xs ys : List A) → take (length xs) (xs ++ ys) ≡ xs
    whole [] ys = refl
    whole (x ∷ xs) ys = ap (λ zs. x ∷ zs) (whole xs ys)

pub noticing_parts : (e : Event) (ports : List Port) (r : Router) (machines : List (Prefix × MachineState)) (table : Table) (gate : Gate) → IsRouter r
    → machines_of machines ≡ reacted e r.machines
    → table.control ≡ with_rows (chosen_rows ports (machines_of machines)) (r.table).control → table.published ≡ (r.table).published
    → gate.held ≡ (r.gate).held ++ sent e ports r.machines → gate.ripe ≡ (r.gate).ripe
    → router_of ports machines table gate r.generation ≡ router_noticing e ports r
noticing_parts e ports r machines table gate kept machines_are control published held ripe =
    let rows : table.control ≡ chosen e ports r.machines = control ∙ ap (λ ms. with_rows (chosen_rows ports ms) (r.table).control) machines_are ∙ control-noticing e ports r kept in
    λ i. record {
      ports = ports;
      machines = machines_are i;
      table = record { control = rows i; published = published i };
      hops = sym kept.hops i;
      gate = record { held = held i; ripe = ripe i };
      generation = r.generation;
    }

pub meeting_parts : (p : Prefix) (e : Event) (r : Router) (machines : List (Prefix × MachineState)) (state : Machine) (table : Table) (gate : Gate) → IsRouter r
    → state ≡ (reaction (machine_of r p) e).machine
    → machines_of machines ≡ put prefix_cmp p state r.machines
    → table.control ≡ put prefix_cmp p (entry_of r.ports state) (r.table).control → table.published ≡ (r.table).published
    → gate.held ≡ (r.gate).held ++ map (held_of r.ports p) (reaction (machine_of r p) e).sends → gate.ripe ≡ (r.gate).ripe
    → router_of r.ports machines table gate r.generation ≡ router_meeting p e r
meeting_parts p e r machines state table gate kept state_is machines_are control published held ripe =
    let all : machines_of machines ≡ (router_meeting p e r).machines = machines_are ∙ ap (λ x. put prefix_cmp p x r.machines) state_is in
    let rows : table.control ≡ ((router_meeting p e r).table).control = control ∙ ap (λ x. put prefix_cmp p (entry_of r.ports x) (r.table).control) state_is ∙ control-meeting p e r kept in
    λ i. record {
      ports = r.ports;
      machines = all i;
      table = record { control = rows i; published = published i };
      hops = sym kept.hops i;
      gate = record { held = held i; ripe = ripe i };
      generation = r.generation;
    }

-- ---- the port of a notice, as Rust writes it

pub ups_written : (f : Port → Port) (b : Bool) (q : ℕ) (ports : List Port) (was : Port) → was ≡ get_or ports q was → ((p : Port) → (f p).up ≡ b) → port_ups (set ports q (f was)) ≡ changed_at q (λ _. b) (port_ups ports)
ups_written f b q ports was read same = ap port_ups (sym (changed_at_written f q ports was read)) ∙ sym (changed_at-map (λ (p : Port). p.up) f (λ _. b) same q ports)

pub ups_kept : (f : Port → Port) (q : ℕ) (ports : List Port) (was : Port) → was ≡ get_or ports q was → ((p : Port) → (f p).up ≡ p.up) → port_ups (set ports q (f was)) ≡ port_ups ports
ups_kept f q ports was read same = ap port_ups (sym (changed_at_written f q ports was read)) ∙ map-changed_at f (λ p. p.up) q ports (λ p _. same p)

pub noticing_written : (e : Event) (f : Port → Port) (q : ℕ) (r : Router) (was : Port) → was ≡ get_or r.ports q was → router_noticing e (set r.ports q (f was)) r ≡ router_noticing e (changed_at q f r.ports) r
noticing_written e f q r was read = ap (λ ports. router_noticing e ports r) (sym (changed_at_written f q r.ports was read))

-- ---- the machine of one prefix

pub machine_there : (p : Prefix) (ms : List (Prefix × MachineState)) (s : MachineState) (d : Machine) → row_of prefix_cmp p ms ≡ Some s → unwrap_or (row_of prefix_cmp p (machines_of ms)) d ≡ s.machine
machine_there p ms s d there = ap (λ o. unwrap_or o d) (find-map prefix_cmp (λ x. x.machine) p ms ∙ ap (option_map (λ (x : MachineState). x.machine)) there)

pub machine_new : (p : Prefix) (ms : List (Prefix × MachineState)) (d : Machine) → row_of prefix_cmp p ms ≡ None → unwrap_or (row_of prefix_cmp p (machines_of ms)) d ≡ d
machine_new p ms d none = ap (λ o. unwrap_or o d) (find-map prefix_cmp (λ x. x.machine) p ms ∙ ap (option_map (λ (x : MachineState). x.machine)) none)

pub row_known : (ports : List Port) (p : Prefix) (ms : List (Prefix × MachineState)) (s : MachineState) → row_of prefix_cmp p ms ≡ Some s → IsSome (row_of prefix_cmp p (chosen_rows ports (machines_of ms)))
row_known ports p ms s there = ap is_some (find-map prefix_cmp (entry_of ports) p (machines_of ms) ∙ ap (option_map (entry_of ports)) (find-map prefix_cmp (λ x. x.machine) p ms ∙ ap (option_map (λ (x : MachineState). x.machine)) there))
