-- What is told of a link, of a router and of a machine.
use Rattle.std.specs.Prelude.{◌≡◌, ℕ, IsSome, Option, None, Some, length, option_map}
use Rattle.network_model.specs.World.{Link, Router}
use Rattle.diffusing_replies.specs.Origin.{origin_number}
use Rattle.dual_machine.specs.State.{MachineState as Machine}
use Rattle.lines.specs.{declared.records.LinkState.LinkState, declared.records.RouterState.RouterState, declared.records.MachineState.MachineState}

-- what is told of a link
abbrev pub link_state : Link → LinkState
link_state k = record { up = k.up; session = k.session; from_a = (k.a).cost; from_b = (k.b).cost }

-- what is told of a router that has yet to take so many notices of its attachments
abbrev pub router_state : Router → ℕ → RouterState
router_state r notices = record { generation = r.generation; held = length (r.gate).held; ripe = (r.gate).ripe; notices = notices }

-- the number of the origin state of the computation under way, if one is
abbrev pub IsOriginNumber : Machine → Option ℕ → Type 0
IsOriginNumber m None = (m.machine).computation ≡ None
IsOriginNumber m (Some number) = IsSome (m.machine).computation × (option_map origin_number m.origin ≡ Some number)

-- what is told of a machine
pub record IsMachineState (m : Machine) (at : MachineState) : Type 0 where
  pub origin : IsOriginNumber m at.origin
  pub rd : at.rd ≡ (m.machine).rd
  pub fd : at.fd ≡ (m.machine).fd
