-- The program's faults.
use Rattle.std.specs.Prelude.{◌≡◌, ℕ, ◌<◌, ◌≤◌, ◌⊎◌, Bool, true, false, if◌then◌else◌, IsUtf8, Option, None, Some, IfSome, length, option_map}
use Rattle.faults.specs.declared.kind.FaultKind.{FaultKind}
use Rattle.texts.specs.Words.{Text}
use Rattle.script.specs.{declared.place.Key.Key, declared.place.Key.TheVariants.Links, declared.place.Key.TheVariants.Prefixes, declared.place.Located.Located, Kinds.line_kind}
use Rattle.network_model.specs.{declared.network.NetworkFault.NetworkFault, declared.step.Refusal.Refusal, Kinds.refusal_kind}
use Rattle.journal.specs.declared.fault.JournalFault.{JournalFault}
use Rattle.plans.specs.{declared.fault.Fault.Fault, declared.place.Where.Where, declared.outcome.Outcome.Outcome, declared.outcome.Outcome.TheVariants.Done, declared.outcome.Outcome.TheVariants.Refused as RefusedStep, declared.outcome.Outcome.TheVariants.Differs}

-- ---- statuses

-- whether what was read is at fault, or could not be read
abbrev pub is_of_input : FaultKind → Bool
is_of_input FaultKind.NoSlash = true
is_of_input FaultKind.BadAddress = true
is_of_input FaultKind.BadLength = true
is_of_input FaultKind.HostBits = true
is_of_input FaultKind.BadCost = true
is_of_input FaultKind.BadRouters = true
is_of_input FaultKind.BadLink = true
is_of_input FaultKind.TooManyLinks = true
is_of_input FaultKind.BadOwner = true
is_of_input FaultKind.BadToml = true
is_of_input FaultKind.BadKey = true
is_of_input FaultKind.BadName = true
is_of_input FaultKind.BadLine = true
is_of_input FaultKind.BadCommand = true
is_of_input FaultKind.TooLarge = true
is_of_input FaultKind.Unreadable = true
is_of_input FaultKind.BadJournal = true
is_of_input _ = false

-- the exit status of a program that stops for a fault of this kind: 1 where it is of what was read; else 2, where memory ran out, or the fault came up after all input was read
abbrev pub status_of : FaultKind → ℕ
status_of kind = if is_of_input kind then 1 else 2

-- the exit status of a command that has met no fault
abbrev pub status_at : Outcome → ℕ
status_at Done = 0
status_at RefusedStep = 2
status_at Differs = 3

-- ---- places

-- a fault that stands nowhere in a text
abbrev pub unplaced : FaultKind → Fault
unplaced kind = record { kind = kind; place = None }

-- a fault at a line of the scenario
abbrev pub at_line : FaultKind → Key → ℕ → Fault
at_line kind key position = record { kind = kind; place = Some (Where.Scenario (record { key = key; position = position })) }

-- ---- what other crates find

-- the network refused a command
abbrev pub refused_fault : Refusal → Fault
refused_fault e = unplaced (refusal_kind e)

-- a line of the scenario cannot be read
abbrev pub line_fault : Located → Fault
line_fault at = record { kind = line_kind at.fault; place = option_map Where.Scenario at.place }

-- the network cannot be opened
abbrev pub opening_fault : NetworkFault → Fault
opening_fault NetworkFault.BadRouters = unplaced FaultKind.BadRouters
opening_fault (NetworkFault.BadLink link) = at_line FaultKind.BadLink Links link
opening_fault (NetworkFault.TooManyLinks link) = at_line FaultKind.TooManyLinks Links link
opening_fault (NetworkFault.BadOwner prefix) = at_line FaultKind.BadOwner Prefixes prefix

-- the text is no journal
abbrev pub journal_fault : JournalFault → Fault
journal_fault JournalFault.BadText = unplaced FaultKind.BadJournal
journal_fault (JournalFault.BadLine line) = record { kind = FaultKind.BadJournal; place = Some (Where.Journal line) }
journal_fault JournalFault.NoMemory = unplaced FaultKind.NoMemory

-- the kind is of a refusal, for such a reason
abbrev pub OfRefusal : (Refusal → Type 0) → FaultKind → Type 0
OfRefusal P kind = (e : Refusal) × (kind ≡ refusal_kind e) × P e

-- the image of a router has no place for a reader
abbrev pub IsWithoutReaders : Fault → Type 0
IsWithoutReaders fault = fault ≡ refused_fault Refusal.NoReaderPlace

-- want of memory, which can come anywhere
pub record IsWantOfMemory (fault : Fault) : Type 0 where
  pub memory : fault.kind ≡ FaultKind.NoMemory
  pub unplaced : fault.place ≡ None

-- ---- files

-- the most bytes of a scenario's file
abbrev pub most_bytes : ℕ
most_bytes = 4194304

-- the most bytes of a journal's file
abbrev pub most_journal_bytes : ℕ
most_journal_bytes = 268435456

-- the bytes are those that a reader has to give, where it is known which
abbrev pub Gives : Option Text → Text → Type 0
Gives known bytes = IfSome known (λ k. bytes ≡ k)

-- of the bytes that a reader gives
abbrev pub OfBytes : Option Text → (Text → Type 0) → Type 0
OfBytes known P = (bytes : Text) × Gives known bytes × P bytes

-- why a file is not read, whatever it holds: its reader fails, or memory runs out
abbrev pub CannotRead : FaultKind → Type 0
CannotRead kind = (kind ≡ FaultKind.Unreadable) ⊎ (kind ≡ FaultKind.NoMemory)

-- why the bytes of a file, which may have so many, are not read
abbrev pub IsUnreadFrom : ℕ → Text → FaultKind → Type 0
IsUnreadFrom most bytes kind = ((kind ≡ FaultKind.TooLarge) × (most < length bytes)) ⊎ CannotRead kind

-- why the bytes of a file are not read as a text
abbrev pub IsUnread : Text → FaultKind → Type 0
IsUnread bytes kind = ((kind ≡ FaultKind.BadToml) × (length bytes ≤ most_bytes) × ¬ (IsUtf8 bytes)) ⊎ IsUnreadFrom most_bytes bytes kind
