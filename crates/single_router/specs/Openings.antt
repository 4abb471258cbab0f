-- What a router begins with.
use Rattle.std.specs.Prelude.{ℕ, nat_lt, if◌then◌else◌, false, List, [], ◌∷◌, Option, Some, None, length, map}
use Rattle.ipv4_prefix.specs.Prefix.{Prefix}
use Rattle.network_model.specs.{declared.network.Port.Port, Network.most_ports, World.Router, World.opening_router, World.rows_of}
use Rattle.c_interface.specs.{Faults.first_of, Rows.prefix_fault, declared.fault.CallFault.CallFault, declared.fault.CallFault.TheVariants.TooManyPorts}
use Rattle.single_router.specs.{Inputs.cost_fault, declared.opening.Attachment.Attachment}

-- the first of the faults of all
abbrev pub first_fault_in : {X : Type 0} → (X → Option CallFault) → List X → Option CallFault
first_fault_in fault [] = None
first_fault_in fault (x ∷ xs) = first_of (fault x) (first_fault_in fault xs)

-- a port that was never up, with its link's cost from here
abbrev pub unused_port : ℕ → Port
unused_port cost = record { up = false; session = 0; cost = cost }

-- why these are no costs of a router's ports: there are too many, or the first of them that is none
abbrev pub costs_fault : List ℕ → Option CallFault
costs_fault costs = if nat_lt most_ports (length costs) then Some TooManyPorts else first_fault_in cost_fault costs

-- the prefix and the cost of an attachment
abbrev pub attachment_row : Attachment → Prefix × ℕ
attachment_row a = (record { addr = a.addr; len = a.len }, a.cost)

-- the fault of an attachment: of its prefix, or else of its cost
abbrev pub attachment_fault : Attachment → Option CallFault
attachment_fault a = first_of (prefix_fault a.addr a.len) (cost_fault a.cost)

-- the fault of the first attachment that has one
abbrev pub attachments_fault : List Attachment → Option CallFault
attachments_fault attachments = first_fault_in attachment_fault attachments

-- why a router cannot be made: its ports are tested first
abbrev pub make_fault : List ℕ → List Attachment → Option CallFault
make_fault costs attachments = first_of (costs_fault costs) (attachments_fault attachments)

-- the router with these ports, that is attached to these prefixes; of a prefix that stands twice the first cost counts
abbrev pub made_router : List ℕ → List Attachment → Router
made_router costs attachments = opening_router (map unused_port costs) (rows_of (map attachment_row attachments))
