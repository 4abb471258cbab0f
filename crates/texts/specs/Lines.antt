-- The lines of a text, and texts of several lines.
use Rattle.std.specs.Prelude.{ℕ, Bool, ◌==◌, if◌then◌else◌, List, [], ◌∷◌, ◌++◌, length}
use Rattle.std.specs.List.{slice_split}
use Rattle.texts.specs.Words.{Text}

-- whether a byte is a line feed
abbrev pub is_line_feed : ℕ → Bool
is_line_feed b = b == 10

-- a list of texts without its last text where that is empty
abbrev pub but_empty_last : List Text → List Text
but_empty_last [] = []
but_empty_last (t ∷ []) = if length t == 0 then [] else t ∷ []
but_empty_last (t ∷ u ∷ us) = t ∷ but_empty_last (u ∷ us)

-- the lines of a text: the parts between its line feeds, but for an empty last part, so that each line ends with a line feed, and the last may end without one
abbrev pub lines_of : Text → List Text
lines_of text = but_empty_last (slice_split is_line_feed text)

-- a text of a line for each element
abbrev pub lines_text : {A : Type 0} → (A → Text) → List A → Text
lines_text line [] = []
lines_text line (x ∷ xs) = (line x ++ 10 ∷ []) ++ lines_text line xs
