-- Lines in a format.
use Rattle.std.specs.Prelude.{Option, None, Some, [], ◌∷◌, ◌++◌, if◌then◌else◌}
use Rattle.texts.specs.Words.{Text}
use Rattle.command_line.specs.{declared.format.Format.Format, declared.format.Format.TheVariants.Text as ForPeople, declared.format.Format.TheVariants.Json}
use Rattle.script.specs.Directories.{Directory}
use Rattle.lines.specs.{Lines.line_json, Lines.line_text, declared.line.Line.Line, declared.told.Printer.Printer}

-- of a line for people and an object of JSON, the one of the format
abbrev pub in_format : {A : Type 0} → Format → A → A → A
in_format ForPeople text json = text
in_format Json text json = json

-- the same of texts that may not be there
abbrev pub of_format : Format → Option Text → Option Text → Option Text
of_format format (Some text) (Some json) = Some (in_format format text json)
of_format format (Some text) None = None
of_format format None json = None

-- a line in the format
abbrev pub line_in : Format → Directory → Line → Text
line_in format d line = in_format format (line_text d line) (line_json d line)

-- a line as it is printed: on a line of its own, or as an element of a list, behind a comma
abbrev pub printed : Printer → Line → Text
printed p line = if p.listed then 44 ∷ line_in p.format (p.directory).now line else line_in p.format (p.directory).now line ++ 10 ∷ []
