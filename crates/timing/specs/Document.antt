-- What a document says of times.
use Rattle.std.specs.Prelude.{◌≡◌, ℕ, ◌+◌, ◌==◌, if◌then◌else◌, ℤ, pos, negsuc, List, [], Option, Some, None, codes, map, string_bytes}
use Rattle.std.specs.Option.{option_map_or}
use Rattle.toml.specs.Data.{Data, integer, Members, get_member}
use Rattle.texts.specs.Words.{Text}
use Rattle.plans.specs.Document.{array_texts, key_count}
use Rattle.timing.specs.declared.document.Document.{Document}

-- three lists of lines, and the delays of links and of routers that are not listed
pub record TimesLists : Type 0 where
  pub links : List Text
  pub routers : List Text
  pub changes : List Text
  pub link : ℕ
  pub router : ℕ

-- whether a key is there, as a number
abbrev pub present : Text → Members → ℕ
present key t = option_map_or (λ d. 1) (get_member key t) 0

-- how many of the five keys are there
abbrev pub known_keys : Members → ℕ
known_keys t = present (codes "links") t + present (codes "routers") t + present (codes "changes") t + present (codes "link") t + present (codes "router") t

-- the texts of the array of strings at a key; none where the key is not there
abbrev pub list_at : Text → Members → Option (List Text)
list_at key t = option_map_or array_texts (get_member key t) (Some [])

-- a number that is 0 or more
abbrev pub natural : ℤ → Option ℕ
natural (pos n) = Some n
natural (negsuc n) = None

-- a delay is an integer that is not negative
abbrev pub delay_of : Data → Option ℕ
delay_of (integer z) = natural z
delay_of _ = None

-- the number at a key; 0 where the key is not there
abbrev pub delay_at : Text → Members → Option ℕ
delay_at key t = option_map_or delay_of (get_member key t) (Some 0)

-- all five, where each is there
abbrev pub five : Option (List Text) → Option (List Text) → Option (List Text) → Option ℕ → Option ℕ → Option TimesLists
five (Some l) (Some r) (Some c) (Some link) (Some router) = Some (record { links = l; routers = r; changes = c; link = link; router = router })
five _ _ _ _ _ = None

-- what a document says that has no other than the five keys, with three arrays of strings and two numbers that are 0 or more
abbrev pub times_in : Members → Option TimesLists
times_in t =
    if key_count t == known_keys t
    then five (list_at (codes "links") t) (list_at (codes "routers") t) (list_at (codes "changes") t) (delay_at (codes "link") t) (delay_at (codes "router") t)
    else None

-- a document that says nothing of times
abbrev pub HasNoTimes : Option Members → Type 0
HasNoTimes document = (t : Members) × (document ≡ Some t) × (times_in t ≡ None)

-- what was read
abbrev pub lists_in_document : Document → TimesLists
lists_in_document d = record { links = map string_bytes d.links.items; routers = map string_bytes d.routers.items; changes = map string_bytes d.changes.items; link = d.link; router = d.router }
