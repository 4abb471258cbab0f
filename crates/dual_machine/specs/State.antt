-- What callers see of a machine, and what an event does to its origin state.
use Rattle.std.specs.Prelude.{◌≡◌, ℕ, Bool, false, nat_lt, if◌then◌else◌, List, map, Option, Some, None, slice_get, is_some, unwrap_or}
use Rattle.std.specs.{List.list_any, Option.option_map, FinSet.contains}
use Rattle.metric.specs.{Distance.infinity, declared.kind.Kind.TheVariants.Query}
use Rattle.network_model.specs.{declared.machine.Event.Event, declared.machine.Neighbour.Neighbour, declared.machine.PortInfo.PortInfo}
use Rattle.network_model.specs.declared.machine.Event.TheVariants.{Message, Up, Down, Cost, Attached, Detached}
use Rattle.network_model.specs.Machine.{Machine, Computation, opening_machine, ways, port_count, is_port, asker, via_successor, condition_holds, with_records, awaited_after}
use Rattle.diffusing_replies.specs.{declared.origin.Origin.Origin, declared.origin.Origin.TheVariants.Own, declared.origin.Origin.TheVariants.Owing}
use Rattle.dual_machine.specs.declared.mode.Mode.{Mode}
use Rattle.dual_machine.specs.declared.mode.Mode.TheVariants as mode
use Rattle.diffusing_replies.specs.Origin.{rose, queried, lost, restart, owes_reply}

-- a machine, with the origin state of the computation under way
pub record MachineState : Type 0 where
  pub machine : Machine
  pub origin : Option Origin

-- ports as a machine meets them first: nothing reported
abbrev pub opening_neighbours : List PortInfo → List Neighbour
opening_neighbours ports = map (λ p. record { up = p.up; cost = p.cost; reported = infinity }) ports

-- a machine that has heard nothing over these ports, passive, with this attachment
abbrev pub opening_state : Option ℕ → List PortInfo → MachineState
opening_state attachment ports = record { machine = opening_machine attachment (opening_neighbours ports); origin = None }

-- ---- the origin state after an event

-- whether the event takes the successor: its link, or the attachment, whose number is the degree
abbrev pub is_loss_of : ℕ → Option ℕ → Event → Bool
is_loss_of port_count successor (Down q) = is_port q successor
is_loss_of port_count successor Detached = is_port port_count successor
is_loss_of port_count successor _ = false

-- whether the event is a query from the successor
abbrev pub is_query_from : Option ℕ → Event → Bool
is_query_from successor (Message q Query value) = is_port q successor
is_query_from successor _ = false

-- whether the distance by way of the successor is above the one with which the computation began
abbrev pub has_risen : Machine → Bool
has_risen m = nat_lt m.rd (via_successor (ways m) m.successor)

-- the origin state of a computation that goes on: by the degree, the successor before the event, and whether the distance has risen. A loss counts
-- before a query, and a query before the distance
abbrev pub moved : ℕ → Option ℕ → Event → Bool → Origin → Origin
moved port_count successor e risen o =
    if is_loss_of port_count successor e then lost o
    else if is_query_from successor e then queried o
    else if risen then rose o
    else o

-- the origin state of a computation that begins; with no one up it is over at once
abbrev pub new_origin : Machine → Origin → Option Origin
new_origin m o = if list_any (λ n. n.up) m.ports then Some o else None

-- of one that an event begins: a query from the successor leaves a debt
abbrev pub started_origin : Machine → Option ℕ → Option Origin
started_origin m None = new_origin m Own
started_origin m (Some q) = new_origin m (if is_port q m.successor then Owing else Own)

-- of a computation that is over: none where the condition holds, else that of the next
abbrev pub completion_origin : Machine → Origin → Option Origin
completion_origin m o = if condition_holds m.rd (ways m) then None else new_origin m (restart o)

-- of a passive machine, with its records changed
abbrev pub passive_origin : Machine → Event → Option Origin
passive_origin m e = if condition_holds m.fd (ways m) then None else started_origin m (asker e)

-- of an active machine, with its records changed
abbrev pub active_origin : Machine → Event → Computation → Origin → Option Origin
active_origin m e c o = if list_any (λ b. b) (awaited_after e c.awaited) then Some o else completion_origin m o

-- the origin state once the records have changed by the event
abbrev pub decided_origin : MachineState → Event → Option Origin
decided_origin s e = by_mode (s.machine).computation s.origin
  where
    by_mode : Option Computation → Option Origin → Option Origin
    by_mode (Some c) (Some o) = active_origin (with_records s.machine e) e c (moved (port_count s.machine) (s.machine).successor e (has_risen (with_records s.machine e)) o)
    by_mode _ _ = passive_origin (with_records s.machine e) e

-- the origin state after an event: a link that comes up leaves it as it is
abbrev pub origin_after : MachineState → Event → Option Origin
origin_after s (Up q cost) = s.origin
origin_after s (Message q kind value) = decided_origin s (Message q kind value)
origin_after s (Down q) = decided_origin s (Down q)
origin_after s (Cost q cost) = decided_origin s (Cost q cost)
origin_after s (Attached cost) = decided_origin s (Attached cost)
origin_after s Detached = decided_origin s Detached

-- ---- what a machine shows

-- whether a reply from this port is awaited
abbrev pub awaits_at : Option Computation → ℕ → Bool
awaits_at None q = false
awaits_at (Some c) q = unwrap_or (slice_get c.awaited q) false

-- what a machine is at: the origin state of the computation under way, and the port to which it owes a reply
abbrev pub IsModeOf : MachineState → Mode → Type 0
IsModeOf s mode.Passive = (s.machine).computation ≡ None
IsModeOf s (mode.Active origin awaited debt) = (s.origin ≡ Some origin) × (option_map (λ c. c.debt) (s.machine).computation ≡ Some debt)

-- the ports shown as awaited are those that are
abbrev pub ShowsAwaited : Option Computation → Mode → Type 0
ShowsAwaited c mode.Passive = Unit {0}
ShowsAwaited c (mode.Active origin awaited debt) = (q : ℕ) → contains awaited q ≡ awaits_at c q

-- a debt is shown exactly in the origin states that owe a reply
abbrev pub OwesByOrigin : Mode → Type 0
OwesByOrigin mode.Passive = Unit {0}
OwesByOrigin (mode.Active origin awaited debt) = is_some debt ≡ owes_reply origin
