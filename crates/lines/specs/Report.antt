-- What is told of links, routers, machines and rows.
use Rattle.std.specs.Prelude.{◌≡◌, ℕ, List, ◌⊎◌, Option, Some, None, nat_lt, if◌then◌else◌, length}
use Rattle.std.specs.{List.flat_map, FinMap.find as row_of, Io.KnownBytes.Appends}
use Rattle.ipv4_prefix.specs.Prefix.{Prefix, prefix_cmp}
use Rattle.network_model.specs.{World.Link, World.Router, World.World, declared.route.Entry.Entry, declared.step.Refusal.Refusal, declared.step.Refusal.TheVariants.UnknownRouter}
use Rattle.dual_machine.specs.State.{MachineState as Machine}
use Rattle.lines.specs.{States.link_state, States.IsMachineState, declared.answers.Asked.TheVariants.Row, declared.line.Line.Line, declared.line.Line.TheVariants.Asked, declared.line.Line.TheVariants.Machine as OfMachine, declared.line.Line.TheVariants.Unheard, declared.states.LinkLine.LinkLine, declared.states.MachineLine.MachineLine, declared.told.Printer.Printer, Formats.printed}
use Rattle.texts.specs.Words.{Text}

-- why nothing is told of a router: it is not there
abbrev pub unknown_router : World → ℕ → Option Refusal
unknown_router w router = if nat_lt router (length w.routers) then None else Some UnknownRouter

-- what is told of a link
abbrev pub link_line : Link → LinkLine
link_line k = record {
  a = k.a.router;
  b = k.b.router;
  at = link_state k;
  queued_a = length k.a.inbox;
  queued_b = length k.b.inbox;
}

-- a line that tells of a router's machine for a prefix
pub record TellsOfMachine (number : ℕ) (r : Router) (p : Prefix) (line : MachineLine) : Type 0 where
  pub machine : Machine
  pub is_machine : row_of prefix_cmp p r.machines ≡ Some machine.machine
  pub router : line.router ≡ number
  pub prefix : line.prefix ≡ p
  pub at : IsMachineState machine line.at
  pub entry : row_of prefix_cmp p (r.table).control ≡ Some line.entry

-- what is told of a router's machine for a prefix; none where the router has no machine or no row for it
abbrev pub IsMachineLine : ℕ → Router → Prefix → Option MachineLine → Type 0
IsMachineLine number r p None = (row_of prefix_cmp p r.machines ≡ None) ⊎ (row_of prefix_cmp p (r.table).control ≡ None)
IsMachineLine number r p (Some line) = TellsOfMachine number r p line

-- ---- texts

-- what is told of a router's machine for a prefix, or that the router has not heard of the prefix
abbrev pub state_line : ℕ → Prefix → Option MachineLine → Line
state_line number p None = Unheard number p
state_line number p (Some line) = OfMachine line

-- rows of a router, a line each
abbrev pub rows_text : Printer → ℕ → List (Prefix × Entry) → Text
rows_text p router = flat_map (λ row. printed p (Asked (Row router row.0 row.1)))

-- a line on a router's machine for a prefix was printed
abbrev pub PrintsMachine : Printer → ℕ → Router → Prefix → Option Text → Option Text → Type 0
PrintsMachine by number r p old new = (line : Option MachineLine) × IsMachineLine number r p line × Appends old new (printed by (state_line number p line))

-- something was printed, and what was there before stays
abbrev pub Prints : Option Text → Option Text → Type 0
Prints old new = (text : Text) × Appends old new text
