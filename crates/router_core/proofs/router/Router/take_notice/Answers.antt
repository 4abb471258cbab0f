use Rattle.std.proofs.Common.{◌≡◌, ℕ, ◌+◌, ◌*◌, ◌^◌, ◌<◌, ◌≤◌, min, ◌++◌, take, drop, length, get_or, set, List, sym, ap, subst, ◌∙◌, arith, Option, IfSome, IsSome}
use Rattle.std.proofs.Math.ListN.{length-set}
use Rattle.network_model.proofs.Common.{Prefix, prefix_cmp, Router, router_noticing, chosen_rows, with_rows, find as row_of}
use Rattle.network_model.specs.declared.network.Port.{Port}
use Rattle.dual_machine.specs.{State.MachineState, Event.IsKnown, Event.IsTimely, Event.is_neighbour_up, Outbox.most_sent}
use Rattle.router_core.specs.Parts.{machines_of, router_of, port_ups, ups_after, IsRouter}
use Rattle.router_core.specs.Router.{is_port_up}
use Rattle.router_core.proofs.{Meetings.reacted, Meetings.sent, Kept.kept-noticing}
use Rattle.router_core.proofs.Notices.{has_ports_at, timely_over, known_over, most_sent_over, row_there, refilled, noticing_parts}
use Rattle.router_core.proofs.router.Router.take_notice.Goals as goal
use Rattle.router_core.proofs.router.Router.take_notice.Given as given

pub meet_all-requires-clause-known : goal.meet_all-requires-clause-known
meet_all-requires-clause-known g c =
    let known : IsKnown (length c.self.inside.ports.items) c.args.event.now = subst (λ (o : Option ℕ). IfSome o (λ q. q < length c.self.inside.ports.items)) (sym c.requires.at_port) (subst (λ (r : Router). c.args.port < length r.ports) (sym c.self.view_is) c.requires.known) in
    subst (λ (ms : List (Prefix × MachineState)). (k : ℕ) → (d : Prefix × MachineState) → k < length ms → IsKnown (length ((get_or ms k d).1).machine.ports) c.args.event.now) (sym c.deref_mut.ensures.value)
    (λ k d h. known_over _ c.self.inside.ports.items c.args.event.now (has_ports_at c.self.inside.ports.items c.self.inside.machines.items c.self.invariant.same_ports k d h) known)

pub meet_all-requires-clause-timely : goal.meet_all-requires-clause-timely
meet_all-requires-clause-timely g c =
    let timely : IsTimely (is_port_up c.self.inside.ports.items) c.args.event.now = subst (λ (r : Router). IsTimely (is_port_up r.ports) c.args.event.now) (sym c.self.view_is) c.requires.timely in
    subst (λ (ms : List (Prefix × MachineState)). (k : ℕ) → (d : Prefix × MachineState) → k < length ms → IsTimely (is_neighbour_up ((get_or ms k d).1).machine.ports) c.args.event.now) (sym c.deref_mut.ensures.value)
    (λ k d h. timely_over _ c.self.inside.ports.items c.args.event.now (has_ports_at c.self.inside.ports.items c.self.inside.machines.items c.self.invariant.same_ports k d h) timely)

pub meet_all-requires-clause-each : goal.meet_all-requires-clause-each
meet_all-requires-clause-each g c =
    let ports : c.port_count-each.result ≡ length c.self.inside.ports.items = c.port_count-each.ensures.count ∙ sym (ap (λ (r : Router). length r.ports) c.self.view_is) in
    subst (λ (ms : List (Prefix × MachineState)). (k : ℕ) → (d : Prefix × MachineState) → k < length ms → most_sent ((get_or ms k d).1).machine.ports ≤ c.port_count-each.result + 1) (sym c.deref_mut.ensures.value)
    (λ k d h.
    let few : most_sent ((get_or c.self.inside.machines.items k d).1).machine.ports ≤ length c.self.inside.ports.items + 1
    = most_sent_over _ c.self.inside.ports.items (has_ports_at c.self.inside.ports.items c.self.inside.machines.items c.self.invariant.same_ports k d h) in
    omega (arith, few, ports))

pub meet_all-requires-clause-rows : goal.meet_all-requires-clause-rows
meet_all-requires-clause-rows g c =
    subst (λ (ms : List (Prefix × MachineState)). (k : ℕ) → (d : Prefix × MachineState) → k < length ms → IsSome (row_of prefix_cmp (get_or ms k d).0 c.reserve.new.self.table.table.control)) (sym c.deref_mut.ensures.value)
    (λ k d h. subst (λ rows. IsSome (row_of prefix_cmp (get_or c.self.inside.machines.items k d).0 rows)) (sym (ap (λ t. t.table.control) c.reserve.ensures.table ∙ c.self.invariant.rows))
    (row_there c.self.inside.ports.items c.self.inside.machines.items c.self.invariant.sorted k d h))

-- the router before, and the parts of it then
module _ (g : given.Over) (c : goal.After-self-2-1 g) where
  abbrev before : Router
  before = router_of c.self.inside.ports.items c.self.inside.machines.items c.self.inside.effects.table.table c.self.inside.effects.gate.gate c.self.inside.generation

  abbrev ports_now : List Port
  ports_now = set c.self.inside.ports.items c.from.result c.args.changed

  abbrev machines_now : List (Prefix × MachineState)
  machines_now = take c.self.inside.machines.len (c.meet_all.new.machines ++ drop (length c.meet_all.new.machines) c.self.inside.machines.items)

  machines_are : machines_now ≡ c.meet_all.new.machines
  machines_are = refilled c.self.inside.machines.len c.meet_all.new.machines c.self.inside.machines.items (c.meet_all.auto.machines ∙ ap length c.deref_mut.ensures.value) c.self.inside.machines.ok.0

  noticed : router_of ports_now machines_now c.meet_all.new.effects.table.table c.meet_all.new.effects.gate.gate c.self.inside.generation ≡ router_noticing c.args.event.now ports_now before
  noticed = noticing_parts c.args.event.now ports_now before machines_now c.meet_all.new.effects.table.table c.meet_all.new.effects.gate.gate c.self.invariant
      (ap machines_of machines_are ∙ c.meet_all.ensures.machines ∙ ap (λ (ms : List (Prefix × MachineState)). reacted c.args.event.now (machines_of ms)) c.deref_mut.ensures.value)
      (c.meet_all.ensures.control
      ∙ ap (λ (ports : List Port). with_rows (chosen_rows ports (machines_of c.meet_all.new.machines)) c.reserve.new.self.table.table.control) c.deref.ensures.value
      ∙ ap (λ (ms : List (Prefix × MachineState)). with_rows (chosen_rows ports_now (machines_of ms)) c.reserve.new.self.table.table.control) (sym machines_are)
      ∙ ap (λ t. with_rows (chosen_rows ports_now (machines_of machines_now)) t.table.control) c.reserve.ensures.table)
      (c.meet_all.ensures.published ∙ ap (λ t. t.table.published) c.reserve.ensures.table)
      (c.meet_all.ensures.held
      ∙ ap (λ g. g.held ++ sent c.args.event.now c.deref.result.now (machines_of c.deref_mut.result.now)) c.reserve.ensures.gate
      ∙ ap (λ (ports : List Port). c.self.inside.effects.gate.gate.held ++ sent c.args.event.now ports (machines_of c.deref_mut.result.now)) c.deref.ensures.value
      ∙ ap (λ (ms : List (Prefix × MachineState)). c.self.inside.effects.gate.gate.held ++ sent c.args.event.now ports_now (machines_of ms)) c.deref_mut.ensures.value)
      (c.meet_all.ensures.ripe ∙ ap (λ g. g.ripe) c.reserve.ensures.gate)

  at_port : ports_now ≡ set c.self.inside.ports.items c.args.port c.args.changed
  at_port = ap (λ q. set c.self.inside.ports.items q c.args.changed) c.from.ensures

  moves : port_ups ports_now ≡ ups_after c.args.event.now (port_ups c.self.inside.ports.items)
  moves = ap port_ups at_port ∙ subst (λ (r : Router). port_ups (set r.ports c.args.port c.args.changed) ≡ ups_after c.args.event.now (port_ups r.ports)) (sym c.self.view_is) c.requires.moves

pub invariant_of-self-2 : goal.invariant_of-self-2
invariant_of-self-2 g c =
    let same_length : length (set c.self.inside.ports.items c.from.result c.args.changed) ≡ length c.self.inside.ports.items = length-set c.self.inside.ports.items c.from.result c.args.changed in
    let few : length c.self.inside.ports.items ≤ 32 = c.self.invariant.few in
    subst IsRouter (sym (noticed g c)) (kept-noticing c.args.event.now (ports_now g c) (before g c) c.self.invariant (omega (arith, same_length, few)) (moves g c))

pub returns-clause-ok : goal.returns-clause-ok
returns-clause-ok g c =
    noticed g c
    ∙ ap (λ ports. router_noticing c.args.event.now ports (before g c)) (at_port g c)
    ∙ ap (λ (r : Router). router_noticing c.args.event.now (set r.ports c.args.port c.args.changed) r) c.self.view_is

-- a number that was not cut off at the largest of 64 bits is the product
bounded : (product all room : ℕ) → all ≡ min product 18446744073709551615 → all ≤ room → room < 2 ^ 63 → product ≤ room
bounded product all room is below few = grind arith

pub meet_all-requires-clause-gate : goal.meet_all-requires-clause-gate
meet_all-requires-clause-gate g c =
    let machines : length c.deref_mut.result.now ≡ c.len.result = ap length c.deref_mut.ensures.value ∙ sym (c.len.ensures ∙ c.self.inside.machines.ok.0) in
    subst (λ n. n * (c.port_count-each.result + 1) ≤ c.reserve.new.self.gate.room) (sym machines)
    (bounded _ c.saturating_mul-all.result c.reserve.new.self.gate.room c.saturating_mul-all.ensures c.in_ok-reserve.ensures.room c.in_ok-reserve.ensures.fits)
