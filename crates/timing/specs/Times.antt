-- What a document of times says of a network.
use Rattle.std.specs.Prelude.{◌≡◌, ◌<◌, ◌⊎◌, ℕ, List, Option, Some, None, length, replicate, option_and_then}
use Rattle.std.specs.List.{AllZip}
use Rattle.toml.specs.Parse.{parse_document}
use Rattle.faults.specs.declared.kind.FaultKind.{FaultKind}
use Rattle.network_model.specs.World.{Network}
use Rattle.texts.specs.Words.{Text}
use Rattle.script.specs.{declared.fault.LineFault.LineFault, Kinds.line_kind}
use Rattle.plans.specs.{declared.document.DocumentFault.DocumentFault, declared.fault.Fault.Fault, declared.place.Where.Where, declared.place.TimesKey.TimesKey, Document.document_kind, Faults.IsUnread, Faults.unplaced}
use Rattle.timed_simulation.specs.declared.links.LinkDelays.{LinkDelays}
use Rattle.timing.specs.declared.given.Given.{Given}
use Rattle.timing.specs.{declared.times.Times.Times, Document.HasNoTimes, Document.TimesLists, Document.times_in, Given.with_given, Lines.SaysChange, Lines.SaysLink, Lines.SaysRouter}

-- the delays of the links are those that lines say, and one for the others
pub record AreLinkDelays (names : List Text) (n : Network) (lines : List Text) (other : ℕ) (delays : List LinkDelays) : Type 0 where
  pub given : List (Given LinkDelays)
  pub says : AllZip (SaysLink names n.links) lines given
  pub set : delays ≡ with_given given (replicate (length n.links) (record { to_a = other; to_b = other }))

-- the delays of the routers are those that lines say, and one for the others
pub record AreRouterDelays (names : List Text) (n : Network) (lines : List Text) (other : ℕ) (delays : List ℕ) : Type 0 where
  pub given : List (Given ℕ)
  pub says : AllZip (SaysRouter names) lines given
  pub set : delays ≡ with_given given (replicate n.routers other)

-- the delays and the changes of a network that the text says
pub record IsTimes (names : List Text) (n : Network) (text : Text) (times : Times) : Type 0 where
  pub lists : TimesLists
  pub document : option_and_then times_in (parse_document text) ≡ Some lists
  pub links : AreLinkDelays names n lists.links lists.link times.links.items
  pub routers : AreRouterDelays names n lists.routers lists.router times.routers.items
  pub changes : AllZip (SaysChange names n.links n.attachments) lists.changes times.changes.items

-- ---- faults

-- a fault of the whole document
abbrev pub of_times : FaultKind → Fault
of_times kind = record { kind = kind; place = Some Where.Times }

-- a fault of the line at this position of a list
abbrev pub of_times_line : FaultKind → TimesKey → ℕ → Fault
of_times_line kind key position = record { kind = kind; place = Some (Where.TimesLine key position) }

-- memory runs out
abbrev pub IsMemory : Fault → Type 0
IsMemory fault = fault ≡ unplaced FaultKind.NoMemory

-- a text is no document
abbrev pub IsFaultOf : DocumentFault → Fault → Type 0
IsFaultOf DocumentFault.NoMemory fault = IsMemory fault
IsFaultOf e fault = fault ≡ of_times (document_kind e)

-- why lines of this list are not all read. The line at this position, which is below their count, says no delay or no change; or memory runs out
abbrev pub StopsLines : TimesKey → ℕ → Fault → Type 0
StopsLines key count fault = IsMemory fault ⊎ ((e : LineFault) × (position : ℕ) × (fault ≡ of_times_line (line_kind e) key position) × (position < count))

-- the lines of this list
abbrev pub lines_at_key : TimesKey → TimesLists → List Text
lines_at_key TimesKey.Links lists = lists.links
lines_at_key TimesKey.Routers lists = lists.routers
lines_at_key TimesKey.Changes lists = lists.changes

-- the text is a document of times with such lists
abbrev pub HasLists : Text → (TimesLists → Type 0) → Type 0
HasLists text P = (lists : TimesLists) × (option_and_then times_in (parse_document text) ≡ Some lists) × P lists

-- as what it is told of a document of times that a text is not read. If it is too long or not UTF-8, it is said of which text
abbrev pub unread_times : FaultKind → Fault
unread_times FaultKind.TooLarge = of_times FaultKind.TooLarge
unread_times FaultKind.BadToml = of_times FaultKind.BadToml
unread_times kind = unplaced kind

-- why the bytes of a document of times are not read as a text
abbrev pub IsUnreadTimes : Text → Fault → Type 0
IsUnreadTimes bytes fault = (kind : FaultKind) × IsUnread bytes kind × (fault ≡ unread_times kind)

-- why a text is no document of times. It is no TOML document, or none of times; or it has more than 10,000 changes
abbrev pub IsNoTimes : Text → FaultKind → Type 0
IsNoTimes text kind =
    ((kind ≡ FaultKind.BadToml) × (parse_document text ≡ None))
    ⊎ ((kind ≡ FaultKind.BadKey) × HasNoTimes (parse_document text))
    ⊎ ((kind ≡ FaultKind.TooLarge) × HasLists text (λ lists. 10000 < length lists.changes))

-- why a text says no times of a network, and where. It is no document of times; or one of its lines says no delay or no change; or memory runs out
abbrev pub SaysNoTimes : Text → FaultKind → Option Where → Type 0
SaysNoTimes text kind None = kind ≡ FaultKind.NoMemory
SaysNoTimes text kind (Some Where.Times) = IsNoTimes text kind
SaysNoTimes text kind (Some (Where.TimesLine key position)) = (e : LineFault) × (kind ≡ line_kind e) × HasLists text (λ lists. position < length (lines_at_key key lists))
SaysNoTimes text kind (Some _) = ⊥

-- the fault is of the document of times that has these bytes
abbrev pub IsOfTimes : Text → Fault → Type 0
IsOfTimes bytes fault = IsUnreadTimes bytes fault ⊎ SaysNoTimes bytes fault.kind fault.place
