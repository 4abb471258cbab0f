-- What is read of a scenario's lines, and where reading stops.
use Rattle.std.specs.Prelude.{◌≡◌, ℕ, ◌<◌, ◌≤◌, List, [], Option, Some, None, length, take, slice_get}
use Rattle.std.specs.List.{AllZip}
use Rattle.ipv4_prefix.specs.Prefix.{Prefix}
use Rattle.network_model.specs.declared.network.LinkSpec.{LinkSpec}
use Rattle.script.specs.{declared.command.Command.Command, declared.fault.LineFault.LineFault, declared.fault.LineFault.TheVariants.BadName, declared.fault.LineFault.TheVariants.TooLarge, declared.place.Key.Key, declared.place.Place.Place, declared.place.Located.Located, Routers.AreNames, Routers.IsBadName, Links.IsLink, Links.IsLinkFault, Attachments.IsAttachment, Attachments.IsAttachmentFault, Commands.IsCommand, Commands.IsCommandFault}
use Rattle.script.specs.declared.place.Key.TheVariants.{Routers, Links, Prefixes, Script}
use Rattle.texts.specs.{Words.Text, Lists.Lists}

-- the greatest number of commands
abbrev pub most_commands : ℕ
most_commands = 10000

-- what was read of a scenario's lists
pub record Parts : Type 0 where
  pub names : List Text
  pub links : List LinkSpec
  pub attachments : List (Prefix × ℕ × ℕ)
  pub commands : List Command

-- nothing
abbrev pub no_parts : Parts
no_parts = record { names = []; links = []; attachments = []; commands = [] }

-- the items are what the first lines of a list say, in order
abbrev pub ReadsFirst : {X : Type 0} → (Text → X → Type 0) → List Text → List X → Type 0
ReadsFirst Says lines items = AllZip Says (take (length items) lines) items

-- each part is what the first lines of its list say, in order
pub record AreParts (lists : Lists) (parts : Parts) : Type 0 where
  pub names : parts.names ≡ take (length parts.names) lists.routers
  pub valid : AreNames parts.names
  pub links : ReadsFirst (IsLink parts.names) lists.links parts.links
  pub attachments : ReadsFirst (IsAttachment parts.names) lists.prefixes parts.attachments
  pub commands : ReadsFirst (IsCommand parts.names parts.links parts.attachments) lists.script parts.commands

-- a line for each item
abbrev pub IsWhole : {X : Type 0} → List Text → List X → Type 0
IsWhole lines items = length items ≡ length lines

-- the first line past the items has the fault, and its position
pub record StopsAtLine {X : Type 0} (IsFault : Text → LineFault → Type 0) (lines : List Text) (items : List X) (position : ℕ) (fault : LineFault) : Type 0 where
  pub line : Text
  pub is_line : slice_get lines position ≡ Some line
  pub has_fault : IsFault line fault
  pub first : length items ≡ position

-- reading stopped at a place in the list of the key
pub record StopsHere {X : Type 0} (IsFault : Text → LineFault → Type 0) (key : Key) (lines : List Text) (items : List X) (at : Located) : Type 0 where
  pub position : ℕ
  pub place : at.place ≡ Some (record { key = key; position = position })
  pub stopped : StopsAtLine IsFault lines items position at.fault

-- why a line says no further name
abbrev pub IsNameFault : List Text → Text → LineFault → Type 0
IsNameFault names line fault = (fault ≡ BadName) × IsBadName names line

-- reading stopped in the list of the key: what stands before was read whole, and nothing after
abbrev pub ReadingStopsIn : Lists → Parts → Key → ℕ → LineFault → Type 0
ReadingStopsIn lists parts Routers position fault =
    StopsAtLine (IsNameFault parts.names) lists.routers parts.names position fault
    × (parts.links ≡ []) × (parts.attachments ≡ []) × (parts.commands ≡ [])
ReadingStopsIn lists parts Links position fault =
    IsWhole lists.routers parts.names
    × StopsAtLine IsLinkFault lists.links parts.links position fault
    × (parts.attachments ≡ []) × (parts.commands ≡ [])
ReadingStopsIn lists parts Prefixes position fault =
    IsWhole lists.routers parts.names × IsWhole lists.links parts.links
    × StopsAtLine (IsAttachmentFault parts.names) lists.prefixes parts.attachments position fault
    × (parts.commands ≡ [])
ReadingStopsIn lists parts Script position fault =
    IsWhole lists.routers parts.names × IsWhole lists.links parts.links × IsWhole lists.prefixes parts.attachments
    × (length lists.script ≤ most_commands)
    × StopsAtLine (IsCommandFault parts.names parts.links parts.attachments) lists.script parts.commands position fault

-- reading stopped at the place, or, without one, before the script, which is too long
abbrev pub ReadingStopsAt : Lists → Parts → LineFault → Option Place → Type 0
ReadingStopsAt lists parts fault (Some place) = ReadingStopsIn lists parts place.key place.position fault
ReadingStopsAt lists parts fault None =
    (fault ≡ TooLarge) × (most_commands < length lists.script)
    × IsWhole lists.routers parts.names × IsWhole lists.links parts.links × IsWhole lists.prefixes parts.attachments
    × (parts.commands ≡ [])

-- reading came to the end, or stopped at the fault
abbrev pub ReadingOutcome : Lists → Parts → Option Located → Type 0
ReadingOutcome lists parts (Some at) = ReadingStopsAt lists parts at.fault at.place
ReadingOutcome lists parts None =
    IsWhole lists.routers parts.names × IsWhole lists.links parts.links × IsWhole lists.prefixes parts.attachments
    × IsWhole lists.script parts.commands × (length lists.script ≤ most_commands)
