-- The words of a line.
use Rattle.std.specs.Prelude.{ℕ, Bool, ◌==◌, List, map, String, string_bytes}
use Rattle.std.specs.List.{slice_split}

-- a text as its bytes
abbrev pub Text : Type 0
Text = List ℕ

-- the bytes of each text
abbrev pub texts : {A : Type 0} → List (String A) → List Text
texts lines = map string_bytes lines

-- whether a byte is a space
abbrev pub is_space : ℕ → Bool
is_space b = b == 32

-- the words of a line: the parts between its spaces, so that two spaces in a row have an empty word between them
abbrev pub words_of : Text → List Text
words_of line = slice_split is_space line
