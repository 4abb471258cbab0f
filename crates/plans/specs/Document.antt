-- What a document says as a scenario.
use Rattle.std.specs.Prelude.{◌≡◌, ℕ, ◌+◌, ◌==◌, if◌then◌else◌, List, [], ◌∷◌, Option, Some, None, codes, option_map, option_and_then}
use Rattle.toml.specs.Data.{Data, string, array, Items, no_items, item, Members, no_members, member, get_member}
use Rattle.texts.specs.{Words.Text, Lists.Lists, Lists.lists_of}
use Rattle.faults.specs.declared.kind.FaultKind.{FaultKind}
use Rattle.plans.specs.declared.document.{Lines.Lines, DocumentFault.DocumentFault}

-- a string's text, put before other texts
abbrev pub text_before : Data → Option (List Text) → Option (List Text)
text_before (string s) rest = option_map (λ ts. s ∷ ts) rest
text_before _ rest = None

-- the texts of items that are all strings
abbrev pub texts_of : Items → Option (List Text)
texts_of no_items = Some []
texts_of (item d ds) = text_before d (texts_of ds)

-- the texts of an array of strings
abbrev pub array_texts : Data → Option (List Text)
array_texts (array ds) = texts_of ds
array_texts _ = None

-- the texts of the array of strings at a key
abbrev pub texts_at : Text → Members → Option (List Text)
texts_at key t = option_and_then array_texts (get_member key t)

-- how many keys a table has
abbrev pub key_count : Members → ℕ
key_count no_members = 0
key_count (member k d ms) = 1 + key_count ms

-- four lists, where all are there
abbrev pub four : Option (List Text) → Option (List Text) → Option (List Text) → Option (List Text) → Option Lists
four (Some r) (Some l) (Some p) (Some s) = Some (record { routers = r; links = l; prefixes = p; script = s })
four _ _ _ _ = None

-- the lists of a document that has exactly the four keys, each with an array of strings
abbrev pub lists_in : Members → Option Lists
lists_in t =
    if key_count t == 4
    then four (texts_at (codes "routers") t) (texts_at (codes "links") t) (texts_at (codes "prefixes") t) (texts_at (codes "script") t)
    else None

-- a document that has no such lists
abbrev pub HasNoLists : Option Members → Type 0
HasNoLists document = (t : Members) × (document ≡ Some t) × (lists_in t ≡ None)

-- the lists that the lines of a scenario are
abbrev pub lists_in_lines : Lines → Lists
lists_in_lines l = lists_of l.routers.items l.links.items l.prefixes.items l.script.items

-- as which fault a fault of the document is told
abbrev pub document_kind : DocumentFault → FaultKind
document_kind DocumentFault.BadToml = FaultKind.BadToml
document_kind DocumentFault.BadKey = FaultKind.BadKey
document_kind DocumentFault.NoMemory = FaultKind.NoMemory
