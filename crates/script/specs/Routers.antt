-- The names of routers, and their numbers.
use Rattle.std.specs.Prelude.{◌≡◌, ◌≢◌, ℕ, ◌≤◌, min, length, slice_index, List, Option, ◌⊎◌, All, AllPairs, Contains, position, option_map, bytes_eq}
use Rattle.texts.specs.Words.{Text}

-- a byte from a to z
abbrev pub IsSmallLetter : ℕ → Type 0
IsSmallLetter b = (97 ≤ b) × (b ≤ 122)

-- a byte from 0 to 9
abbrev pub IsDigit : ℕ → Type 0
IsDigit b = (48 ≤ b) × (b ≤ 57)

-- a name: 1 to 16 small letters and digits, the first a letter
pub record IsName (text : Text) : Type 0 where
  pub short : length text ≤ 16
  pub starts : IsSmallLetter (slice_index text 0)
  pub plain : All (λ b. IsSmallLetter b ⊎ IsDigit b) text

-- names of which no two are the same
pub record AreNames (names : List Text) : Type 0 where
  pub each : All IsName names
  pub distinct : AllPairs (λ a b. a ≢ b) names

-- the number of no router: a network has fewer
abbrev pub no_router : ℕ
no_router = 65535

-- the number of the router of a name: its place among the names, from 0. Names past the last number share it
abbrev pub router_number : List Text → Text → Option ℕ
router_number names word = option_map (min no_router) (position (bytes_eq word) names)

-- why a text cannot be the next name: it is no name, or was given before
abbrev pub IsBadName : List Text → Text → Type 0
IsBadName names text = (¬ (IsName text)) ⊎ Contains names text

-- the names can be, and a look-up finds the number of each
pub record FindsNames (names : List Text) (found : Text → Option ℕ) : Type 0 where
  pub valid : AreNames names
  pub finds : (word : Text) → found word ≡ router_number names word
