use Rattle.std.proofs.Common.{◌≡◌, ℕ, inl, option_map, ◌+◌, ◌≤◌, ◌++◌, true, None, length, set, List, Ok, Err, Some, sym, ap, subst, ◌∙◌, arith, refl, false, Bool, ◌||◌, nat_lt, map, is_some}
use Rattle.network_model.proofs.Common.{nat_tests, Prefix, prefix_cmp, reaction, opening_machine, Router, machine_of, neighbours, router_meeting, entry_of, held_of, sorted-map, find-map, insert, find as row_of, put, is_sorted}
use Rattle.network_model.specs.declared.network.Port.{Port}
use Rattle.dual_machine.specs.{State.MachineState, Event.IsKnown, Event.IsTimely, Outbox.most_sent}
use Rattle.route_table.specs.Place.{IsPlace}
use Rattle.route_table.proofs.PrefixPlaces.{found_row, written_row, missed_row, new_row}
use Rattle.router_core.specs.Parts.{machines_of, router_of, ups, port_ups, ups_after, IsRouter}
use Rattle.router_core.specs.Router.{is_port_up}
use Rattle.router_core.proofs.{Refused.gave_up, Ports.ups-neighbours, Kept.kept-meeting, Opening.machines_of-put}
use Rattle.router_core.proofs.Notices.{has_ports_at, timely_over, known_over, most_sent_over, meeting_parts, machine_there, machine_new, row_known}
use Rattle.router_core.proofs.router.Router.meet_one.Goals as goal
use Rattle.router_core.proofs.router.Router.meet_one.Given as given

pub place_of-requires : goal.place_of-requires
place_of-requires g c = ap (is_sorted prefix_cmp) c.deref.ensures.value ∙ sym (sorted-map prefix_cmp (λ s. s.machine) c.self.inside.machines.items) ∙ c.self.invariant.sorted

-- ---- a prefix that was heard of

module _ (g : given.Over) (c : goal.After-deref-in-Ok g) where
  abbrev items : List (Prefix × MachineState)
  items = c.self.inside.machines.items

  abbrev row : Prefix × MachineState
  row = c.index_mut-row.result.now

  place : IsPlace c.args.prefix items (Ok c.in-Ok.place)
  place = subst (λ xs. IsPlace c.args.prefix xs (Ok c.in-Ok.place)) c.deref.ensures.value c.in-Ok.ensures

  sorted : is_sorted prefix_cmp items ≡ true
  sorted = sym (sorted-map prefix_cmp (λ s. s.machine) items) ∙ c.self.invariant.sorted

  there : row_of prefix_cmp c.args.prefix items ≡ Some row.1
  there = found_row items c.in-Ok.place c.args.prefix row sorted place c.index_mut-row.ensures.value

  same_ports : ups (row.1).machine.ports ≡ port_ups c.self.inside.ports.items
  same_ports = subst (λ (m : Prefix × MachineState). ups (m.1).machine.ports ≡ port_ups c.self.inside.ports.items) (sym c.index_mut-row.ensures.value)
      (has_ports_at c.self.inside.ports.items items c.self.invariant.same_ports c.in-Ok.place row place.0)

pub meet-requires-clause-known : goal.meet-requires-clause-known
meet-requires-clause-known g c =
    known_over ((row g c).1).machine.ports c.self.inside.ports.items c.args.event.now (same_ports g c) (subst (λ (r : Router). IsKnown (length r.ports) c.args.event.now) (sym c.self.view_is) c.requires.known)

pub meet-requires-clause-timely : goal.meet-requires-clause-timely
meet-requires-clause-timely g c =
    timely_over ((row g c).1).machine.ports c.self.inside.ports.items c.args.event.now (same_ports g c) (subst (λ (r : Router). IsTimely (is_port_up r.ports) c.args.event.now) (sym c.self.view_is) c.requires.timely)

pub meet-requires-clause-room : goal.meet-requires-clause-room
meet-requires-clause-room g c =
    let few : most_sent ((row g c).1).machine.ports ≤ length c.self.inside.ports.items + 1 = most_sent_over _ c.self.inside.ports.items (same_ports g c) in
    let ports : c.port_count-each.result ≡ length c.self.inside.ports.items = c.port_count-each.ensures.count ∙ sym (ap (λ (r : Router). length r.ports) c.self.view_is) in
    let fit : c.port_count-each.result ≤ 32 = c.port_count-each.ensures.few in
    let sends : 33 ≤ c.reserve.new.self.sends.capacity = c.reserve.ensures.sends in
    let room : c.port_count-each.result + 1 ≤ c.reserve.new.self.gate.room = c.in_ok-reserve-in-Ok.ensures.room in
    record {
      sends = omega (arith, few, ports, fit, sends);
      gate = omega (arith, few, ports, room);
      table = ap (λ b. b || nat_lt 0 c.reserve.new.self.table.room)
          (subst (λ rows. is_some (row_of prefix_cmp c.args.prefix rows) ≡ true) (sym (ap (λ t. t.table.control) c.reserve.ensures.table ∙ c.self.invariant.rows))
          (row_known c.self.inside.ports.items c.args.prefix (items g c) ((row g c).1) (there g c)));
    }

module _ (g : given.Over) (c : goal.After-self-1 g) where
  abbrev before : Router
  before = router_of c.self.inside.ports.items c.self.inside.machines.items c.self.inside.effects.table.table c.self.inside.effects.gate.gate c.self.inside.generation

  known_machine : machine_of before c.args.prefix ≡ (c.index_mut-row.result.now.1).machine
  known_machine = machine_there c.args.prefix c.self.inside.machines.items c.index_mut-row.result.now.1 (opening_machine None (neighbours c.self.inside.ports.items))
      (found_row c.self.inside.machines.items c.in-Ok.place c.args.prefix c.index_mut-row.result.now
      (sym (sorted-map prefix_cmp (λ s. s.machine) c.self.inside.machines.items) ∙ c.self.invariant.sorted)
      (subst (λ xs. IsPlace c.args.prefix xs (Ok c.in-Ok.place)) c.deref.ensures.value c.in-Ok.ensures) c.index_mut-row.ensures.value)

  machines_set : machines_of (set c.self.inside.machines.items c.in-Ok.place (c.index_mut-row.result.now.0, c.meet.new.machine)) ≡ put prefix_cmp c.args.prefix c.meet.new.machine.machine (machines_of c.self.inside.machines.items)
  machines_set =
      ap machines_of (written_row c.self.inside.machines.items c.in-Ok.place c.args.prefix c.index_mut-row.result.now c.meet.new.machine
      (sym (sorted-map prefix_cmp (λ s. s.machine) c.self.inside.machines.items) ∙ c.self.invariant.sorted)
      (subst (λ xs. IsPlace c.args.prefix xs (Ok c.in-Ok.place)) c.deref.ensures.value c.in-Ok.ensures) c.index_mut-row.ensures.value)
      ∙ machines_of-put c.args.prefix c.meet.new.machine c.self.inside.machines.items

  told : router_of c.self.inside.ports.items (set c.self.inside.machines.items c.in-Ok.place (c.index_mut-row.result.now.0, c.meet.new.machine)) c.meet.new.self.table.table c.meet.new.self.gate.gate c.self.inside.generation
      ≡ router_meeting c.args.prefix c.args.event.now before
  told = meeting_parts c.args.prefix c.args.event.now before _ c.meet.new.machine.machine c.meet.new.self.table.table c.meet.new.self.gate.gate c.self.invariant
      (c.meet.ensures.machine ∙ ap (λ m. (reaction m c.args.event.now).machine) (sym known_machine))
      machines_set
      (c.meet.ensures.control
      ∙ ap (λ (ports : List Port). put prefix_cmp c.args.prefix (entry_of ports c.meet.new.machine.machine) c.reserve.new.self.table.table.control) c.deref-in-Ok.ensures.value
      ∙ ap (λ t. put prefix_cmp c.args.prefix (entry_of c.self.inside.ports.items c.meet.new.machine.machine) t.table.control) c.reserve.ensures.table)
      (c.meet.ensures.published ∙ ap (λ t. t.table.published) c.reserve.ensures.table)
      (c.meet.ensures.held
      ∙ ap (λ g. g.held ++ map (held_of c.deref-in-Ok.result.now c.args.prefix) (reaction (c.index_mut-row.result.now.1).machine c.args.event.now).sends) c.reserve.ensures.gate
      ∙ ap (λ (ports : List Port). c.self.inside.effects.gate.gate.held ++ map (held_of ports c.args.prefix) (reaction (c.index_mut-row.result.now.1).machine c.args.event.now).sends) c.deref-in-Ok.ensures.value
      ∙ ap (λ m. c.self.inside.effects.gate.gate.held ++ map (held_of c.self.inside.ports.items c.args.prefix) (reaction m c.args.event.now).sends) (sym known_machine))
      (c.meet.ensures.ripe ∙ ap (λ g. g.ripe) c.reserve.ensures.gate)

  still : ups_after c.args.event.now (port_ups c.self.inside.ports.items) ≡ port_ups c.self.inside.ports.items
  still = subst (λ (r : Router). ups_after c.args.event.now (port_ups r.ports) ≡ port_ups r.ports) (sym c.self.view_is) c.requires.still

pub invariant_of-self-in-Ok : goal.invariant_of-self-in-Ok
invariant_of-self-in-Ok g c = subst IsRouter (sym (told g c)) (kept-meeting c.args.prefix c.args.event.now (before g c) c.self.invariant (still g c))

pub returns-in_ok-reserve-in-Ok-clause-ok : goal.returns-in_ok-reserve-in-Ok-clause-ok
returns-in_ok-reserve-in-Ok-clause-ok g c = told g c ∙ ap (router_meeting c.args.prefix c.args.event.now) c.self.view_is

-- ---- a prefix that was not

pub meet-requires-in-Err-clause-known : goal.meet-requires-in-Err-clause-known
meet-requires-in-Err-clause-known g c =
    known_over c.in_ok-machine-in-Err.machine.machine.ports c.args.self.now.ports c.args.event.now (ap (λ m. ups m.ports) c.in_ok-machine-in-Err.ensures ∙ ups-neighbours c.args.self.now.ports) c.requires.known

pub meet-requires-in-Err-clause-timely : goal.meet-requires-in-Err-clause-timely
meet-requires-in-Err-clause-timely g c =
    timely_over c.in_ok-machine-in-Err.machine.machine.ports c.args.self.now.ports c.args.event.now (ap (λ m. ups m.ports) c.in_ok-machine-in-Err.ensures ∙ ups-neighbours c.args.self.now.ports) c.requires.timely

module _ (g : given.Over) (c : goal.After-unwrap g) where
  abbrev unheard : Router
  unheard = router_of c.self.inside.ports.items c.self.inside.machines.items c.self.inside.effects.table.table c.self.inside.effects.gate.gate c.self.inside.generation

  gap : IsPlace c.args.prefix c.self.inside.machines.items (Err c.in-Err.place)
  gap = subst (λ xs. IsPlace c.args.prefix xs (Err c.in-Err.place)) c.deref.ensures.value c.in-Err.ensures

  opened_machine : machine_of unheard c.args.prefix ≡ c.in_ok-machine-in-Err.machine.machine
  opened_machine = machine_new c.args.prefix c.self.inside.machines.items (opening_machine None (neighbours c.self.inside.ports.items)) (missed_row c.self.inside.machines.items c.in-Err.place c.args.prefix gap)
      ∙ ap (λ (r : Router). opening_machine None (neighbours r.ports)) c.self.view_is ∙ sym c.in_ok-machine-in-Err.ensures

  machines_more : machines_of c.insert.new.self.items ≡ put prefix_cmp c.args.prefix c.meet-in-Err.new.machine.machine (machines_of c.self.inside.machines.items)
  machines_more =
      ap machines_of (rw c.unwrap.ensures at c.insert.ensures.items
      ∙ ap (λ (xs : List (Prefix × MachineState)). insert xs c.in-Err.place (c.args.prefix, c.meet-in-Err.new.machine)) c.reserve-in-Err.ensures.items
      ∙ new_row c.self.inside.machines.items c.in-Err.place c.args.prefix c.meet-in-Err.new.machine gap)
      ∙ machines_of-put c.args.prefix c.meet-in-Err.new.machine c.self.inside.machines.items

  told_first : router_of c.self.inside.ports.items c.insert.new.self.items c.meet-in-Err.new.self.table.table c.meet-in-Err.new.self.gate.gate c.self.inside.generation
      ≡ router_meeting c.args.prefix c.args.event.now unheard
  told_first = meeting_parts c.args.prefix c.args.event.now unheard _ c.meet-in-Err.new.machine.machine c.meet-in-Err.new.self.table.table c.meet-in-Err.new.self.gate.gate c.self.invariant
      (c.meet-in-Err.ensures.machine ∙ ap (λ m. (reaction m c.args.event.now).machine) (sym opened_machine))
      machines_more
      (c.meet-in-Err.ensures.control
      ∙ ap (λ (ports : List Port). put prefix_cmp c.args.prefix (entry_of ports c.meet-in-Err.new.machine.machine) c.reserve-in-Err-3.new.self.table.table.control) c.deref-in-Err.ensures.value
      ∙ ap (λ t. put prefix_cmp c.args.prefix (entry_of c.self.inside.ports.items c.meet-in-Err.new.machine.machine) t.table.control) c.reserve-in-Err-3.ensures.table
      ∙ ap (λ t. put prefix_cmp c.args.prefix (entry_of c.self.inside.ports.items c.meet-in-Err.new.machine.machine) t.control) c.reserve-in-Err-2.ensures.table)
      (c.meet-in-Err.ensures.published ∙ ap (λ t. t.table.published) c.reserve-in-Err-3.ensures.table ∙ ap (λ t. t.published) c.reserve-in-Err-2.ensures.table)
      (c.meet-in-Err.ensures.held
      ∙ ap (λ g. g.held ++ map (held_of c.deref-in-Err.result.now c.args.prefix) (reaction c.in_ok-machine-in-Err.machine.machine c.args.event.now).sends) c.reserve-in-Err-3.ensures.gate
      ∙ ap (λ (ports : List Port). c.self.inside.effects.gate.gate.held ++ map (held_of ports c.args.prefix) (reaction c.in_ok-machine-in-Err.machine.machine c.args.event.now).sends) c.deref-in-Err.ensures.value
      ∙ ap (λ m. c.self.inside.effects.gate.gate.held ++ map (held_of c.self.inside.ports.items c.args.prefix) (reaction m c.args.event.now).sends) (sym opened_machine))
      (c.meet-in-Err.ensures.ripe ∙ ap (λ g. g.ripe) c.reserve-in-Err-3.ensures.gate)

  still_first : ups_after c.args.event.now (port_ups c.self.inside.ports.items) ≡ port_ups c.self.inside.ports.items
  still_first = subst (λ (r : Router). ups_after c.args.event.now (port_ups r.ports) ≡ port_ups r.ports) (sym c.self.view_is) c.requires.still

pub invariant_of-self-in-Err : goal.invariant_of-self-in-Err
invariant_of-self-in-Err g c = subst IsRouter (sym (told_first g c)) (kept-meeting c.args.prefix c.args.event.now (unheard g c) c.self.invariant (still_first g c))

pub returns-in_ok-reserve-in-Err-3-clause-ok : goal.returns-in_ok-reserve-in-Err-3-clause-ok
returns-in_ok-reserve-in-Err-3-clause-ok g c = told_first g c ∙ ap (router_meeting c.args.prefix c.args.event.now) c.self.view_is

-- ---- a machine that is opened, and finds no room

-- a prefix whose place has no machine was not heard of
unheard_of : (p : Prefix) (items : List (Prefix × MachineState)) (place : ℕ) (r : Router) → machines_of items ≡ r.machines → IsPlace p items (Err place) → row_of prefix_cmp p r.machines ≡ None
unheard_of p items place r is at = ap (row_of prefix_cmp p) (sym is) ∙ find-map prefix_cmp (λ (s : MachineState). s.machine) p items ∙ ap (option_map (λ (s : MachineState). s.machine)) (missed_row items place p at)

pub returns-in_err-reserve-in-Err-clause-err : goal.returns-in_err-reserve-in-Err-clause-err
returns-in_err-reserve-in-Err-clause-err g c =
    let i = c.self.inside in
    gave_up c.from_residual-in_err-reserve-in-Err.result
    (ap (λ (ms : List (Prefix × MachineState)). router_of i.ports.items ms i.effects.table.table i.effects.gate.gate i.generation) c.reserve-in-Err.ensures.items ∙ c.self.view_is)

pub returns-in_err-reserve-in-Err-2-clause-err : goal.returns-in_err-reserve-in-Err-2-clause-err
returns-in_err-reserve-in-Err-2-clause-err g c =
    let i = c.self.inside in
    gave_up c.from_residual-in_err-reserve-in-Err-2.result
    (ap (λ (ms : List (Prefix × MachineState)). router_of i.ports.items ms c.reserve-in-Err-2.new.self.table i.effects.gate.gate i.generation) c.reserve-in-Err.ensures.items
    ∙ ap (λ t. router_of i.ports.items i.machines.items t i.effects.gate.gate i.generation) c.reserve-in-Err-2.ensures.table
    ∙ c.self.view_is)

pub returns-in_err-reserve-in-Err-3-clause-err : goal.returns-in_err-reserve-in-Err-3-clause-err
returns-in_err-reserve-in-Err-3-clause-err g c =
    let i = c.self.inside in
    let e = c.reserve-in-Err-3.new.self in
    gave_up c.from_residual-in_err-reserve-in-Err-3.result
    (ap (λ (ms : List (Prefix × MachineState)). router_of i.ports.items ms e.table.table e.gate.gate i.generation) c.reserve-in-Err.ensures.items
    ∙ ap (λ t. router_of i.ports.items i.machines.items t.table e.gate.gate i.generation) c.reserve-in-Err-3.ensures.table
    ∙ ap (λ t. router_of i.ports.items i.machines.items t e.gate.gate i.generation) c.reserve-in-Err-2.ensures.table
    ∙ ap (λ gate. router_of i.ports.items i.machines.items i.effects.table.table gate i.generation) c.reserve-in-Err-3.ensures.gate
    ∙ c.self.view_is)

or_with_true : (b : Bool) → (b || true) ≡ true
or_with_true true = refl
or_with_true false = refl

pub meet-requires-in-Err-clause-room : goal.meet-requires-in-Err-clause-room
meet-requires-in-Err-clause-room g c =
    let few : most_sent c.in_ok-machine-in-Err.machine.machine.ports ≤ length c.args.self.now.ports + 1
    = most_sent_over c.in_ok-machine-in-Err.machine.machine.ports c.args.self.now.ports (ap (λ m. ups m.ports) c.in_ok-machine-in-Err.ensures ∙ ups-neighbours c.args.self.now.ports) in
    let ports : c.port_count-each.result ≡ length c.args.self.now.ports = c.port_count-each.ensures.count in
    let fit : c.port_count-each.result ≤ 32 = c.port_count-each.ensures.few in
    let sends : 33 ≤ c.reserve-in-Err-3.new.self.sends.capacity = c.reserve-in-Err-3.ensures.sends in
    let room : c.port_count-each.result + 1 ≤ c.reserve-in-Err-3.new.self.gate.room = c.in_ok-reserve-in-Err-3.ensures.room in
    let one : 1 ≤ c.reserve-in-Err-3.new.self.table.room = subst (λ t. 1 ≤ t.room) (sym c.reserve-in-Err-3.ensures.table) c.in_ok-reserve-in-Err-2.ensures.ok in
    let some : nat_lt 0 c.reserve-in-Err-3.new.self.table.room ≡ true = grind (arith, nat_tests) in
    record {
      sends = omega (arith, few, ports, fit, sends);
      gate = omega (arith, few, ports, room);
      table = ap (λ b. is_some (row_of prefix_cmp c.args.prefix c.reserve-in-Err-3.new.self.table.table.control) || b) some ∙ or_with_true _;
    }

pub returns-in_err-machine-in-Err-clause-memory : goal.returns-in_err-machine-in-Err-clause-memory
returns-in_err-machine-in-Err-clause-memory g c =
    gave_up c.from_residual-in_err-machine-in-Err.result
    (inl (unheard_of c.args.prefix c.self.inside.machines.items c.in-Err.place c.args.self.now (ap (λ (r : Router). r.machines) c.self.view_is)
    (subst (λ xs. IsPlace c.args.prefix xs (Err c.in-Err.place)) c.deref.ensures.value c.in-Err.ensures)))

pub returns-in_err-reserve-in-Err-clause-memory : goal.returns-in_err-reserve-in-Err-clause-memory
returns-in_err-reserve-in-Err-clause-memory g c =
    gave_up c.from_residual-in_err-reserve-in-Err.result
    (inl (unheard_of c.args.prefix c.self.inside.machines.items c.in-Err.place c.args.self.now (ap (λ (r : Router). r.machines) c.self.view_is)
    (subst (λ xs. IsPlace c.args.prefix xs (Err c.in-Err.place)) c.deref.ensures.value c.in-Err.ensures)))

pub returns-in_err-reserve-in-Err-2-clause-memory : goal.returns-in_err-reserve-in-Err-2-clause-memory
returns-in_err-reserve-in-Err-2-clause-memory g c =
    gave_up c.from_residual-in_err-reserve-in-Err-2.result
    (inl (unheard_of c.args.prefix c.self.inside.machines.items c.in-Err.place c.args.self.now (ap (λ (r : Router). r.machines) c.self.view_is)
    (subst (λ xs. IsPlace c.args.prefix xs (Err c.in-Err.place)) c.deref.ensures.value c.in-Err.ensures)))

pub returns-in_err-reserve-in-Err-3-clause-memory : goal.returns-in_err-reserve-in-Err-3-clause-memory
returns-in_err-reserve-in-Err-3-clause-memory g c =
    gave_up c.from_residual-in_err-reserve-in-Err-3.result
    (inl (unheard_of c.args.prefix c.self.inside.machines.items c.in-Err.place c.args.self.now (ap (λ (r : Router). r.machines) c.self.view_is)
    (subst (λ xs. IsPlace c.args.prefix xs (Err c.in-Err.place)) c.deref.ensures.value c.in-Err.ensures)))
