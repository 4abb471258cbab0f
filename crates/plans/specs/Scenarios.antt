-- The network and the script of a scenario, and what is wrong with it.
use Rattle.std.specs.Prelude.{◌≡◌, ◌≤◌, Bool, true, false, if◌then◌else◌, Option, Some, None, ◌⊎◌, min, length, option_map, option_and_then}
use Rattle.std.specs.Option.{option_map_or}
use Rattle.toml.specs.Parse.{parse_document}
use Rattle.faults.specs.declared.kind.FaultKind.{FaultKind}
use Rattle.texts.specs.{Words.Text, Lists.Lists}
use Rattle.script.specs.{Routers.no_router, Reading.Parts, Reading.AreParts, Reading.ReadingOutcome, Directories.directory_of, declared.fault.LineFault.LineFault as TextFault, declared.fault.LineFault.TheVariants.BadName, declared.place.Located.Located}
use Rattle.network_model.specs.{declared.network.NetworkFault.NetworkFault, World.Network, Network.network_fault, Network.program_limits}
use Rattle.world.specs.Parts.{network_of_parts}
use Rattle.plans.specs.{declared.fault.Fault.Fault, declared.plan.Plan.Plan, Document.lists_in, Document.HasNoLists}
use Rattle.plans.specs.Faults.{unplaced, line_fault, opening_fault, most_bytes, IsUnread, IsWantOfMemory}

-- ---- what was read

-- the network of what was read
abbrev pub network_read : Parts → Network
network_read parts = network_of_parts (min no_router (length parts.names)) parts.links parts.attachments

-- what was read of a text, up to the first fault of a line
pub record IsRead (text : Text) (parts : Parts) (stop : Option Located) : Type 0 where
  pub lists : Lists
  pub are_lists : option_and_then lists_in (parse_document text) ≡ Some lists
  pub read : AreParts lists parts
  pub stops : ReadingOutcome lists parts stop

-- ---- the first fault

-- whether a line's fault is that of a router's name
abbrev pub is_name_fault : TextFault → Bool
is_name_fault BadName = true
is_name_fault _ = false

-- of the fault of the network that was read and the fault of a line, the one that comes first: the network's, but for a router's name
abbrev pub first_fault : Option NetworkFault → Option Located → Option Fault
first_fault network None = option_map opening_fault network
first_fault network (Some at) = Some (if is_name_fault at.fault then line_fault at else option_map_or opening_fault network (line_fault at))

-- why no network can be opened of a text: it is no scenario, or the first fault of what was read
abbrev pub IsScenarioFault : Text → Fault → Type 0
IsScenarioFault text fault =
    ((fault ≡ unplaced FaultKind.BadToml) × (parse_document text ≡ None))
    ⊎ ((fault ≡ unplaced FaultKind.BadKey) × HasNoLists (parse_document text))
    ⊎ ((parts : Parts) × (stop : Option Located) × IsRead text parts stop × (first_fault (network_fault program_limits (network_read parts)) stop ≡ Some fault))

-- ---- plans

-- the network of what was read, with its names and its commands
pub record IsPlanOf (parts : Parts) (o : Plan) : Type 0 where
  pub network : o.network ≡ network_read parts
  pub directory : o.directory ≡ directory_of parts.names parts.links
  pub commands : o.commands.items ≡ parts.commands

-- a text that is read to its end, of which a network can be opened
pub record IsScenario (text : Text) (parts : Parts) : Type 0 where
  pub read : IsRead text parts None
  pub no_fault : network_fault program_limits (network_read parts) ≡ None

-- why no network can be opened of a file of these bytes: the file is not read, memory runs out, or its text is at fault
abbrev pub StopsReading : Text → Fault → Type 0
StopsReading bytes fault =
    ((fault.place ≡ None) × IsUnread bytes fault.kind)
    ⊎ IsWantOfMemory fault
    ⊎ ((length bytes ≤ most_bytes) × IsScenarioFault bytes fault)
