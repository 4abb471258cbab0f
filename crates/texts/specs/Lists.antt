-- The four lists of lines that make a scenario.
use Rattle.std.specs.Prelude.{List, String}
use Rattle.texts.specs.Words.{Text, texts}

-- the lines of its routers, links, prefixes and commands
pub record Lists : Type 0 where
  pub routers : List Text
  pub links : List Text
  pub prefixes : List Text
  pub script : List Text

-- the lists that four lists of strings are
abbrev pub lists_of : {A : Type 0} → List (String A) → List (String A) → List (String A) → List (String A) → Lists
lists_of routers links prefixes script = record { routers = texts routers; links = texts links; prefixes = texts prefixes; script = texts script }
