-- The names of the formats.
use Rattle.std.specs.Prelude.{codes}
use Rattle.clap.specs.Words.{Text}
use Rattle.command_line.specs.{declared.format.Format.Format, declared.format.Format.TheVariants.Text as ForPeople, declared.format.Format.TheVariants.Json}

-- the name of a format on the command line
abbrev pub format_text : Format → Text
format_text ForPeople = codes "text"
format_text Json = codes "json"
