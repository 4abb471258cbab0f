-- When a machine may be told of an event.
use Rattle.std.specs.Prelude.{◌≡◌, ℕ, ◌<◌, Bool, true, false, List, Option, Some, None, slice_get, IfSome}
use Rattle.std.specs.Option.{option_map_or}
use Rattle.metric.specs.Distance.{IsCost}
use Rattle.network_model.specs.{declared.machine.Event.Event, declared.machine.Neighbour.Neighbour}
use Rattle.network_model.specs.declared.machine.Event.TheVariants.{Message, Up, Down, Cost, Attached, Detached}

-- the port at which an event happens; none where it is one of the attachment
abbrev pub port_of : Event → Option ℕ
port_of (Message q kind value) = Some q
port_of (Up q cost) = Some q
port_of (Down q) = Some q
port_of (Cost q cost) = Some q
port_of (Attached cost) = None
port_of Detached = None

-- the port of the event, if it has one, is one of so many
abbrev pub IsKnown : ℕ → Event → Type 0
IsKnown count e = IfSome (port_of e) (λ q. q < count)

-- whether the neighbour at this port is up
abbrev pub is_neighbour_up : List Neighbour → ℕ → Bool
is_neighbour_up ns q = option_map_or (λ n. n.up) (slice_get ns q) false

-- among ports of which some are up: a link comes up that is down; all else at a link happens while it is up. An attachment may come, change and go at any time
abbrev pub IsTimely : (ℕ → Bool) → Event → Type 0
IsTimely up (Message q kind value) = up q ≡ true
IsTimely up (Up q cost) = up q ≡ false
IsTimely up (Down q) = up q ≡ true
IsTimely up (Cost q cost) = up q ≡ true
IsTimely up (Attached cost) = Unit {0}
IsTimely up Detached = Unit {0}

-- the cost that an event brings, if it brings one, is the cost of a link or of an attachment
abbrev pub BringsCost : Event → Type 0
BringsCost (Message q kind value) = Unit {0}
BringsCost (Up q cost) = IsCost cost
BringsCost (Down q) = Unit {0}
BringsCost (Cost q cost) = IsCost cost
BringsCost (Attached cost) = IsCost cost
BringsCost Detached = Unit {0}
