-- The command line of the program that shows a run, as clap's definition reads it, and what its matches ask for.
use Rattle.std.specs.Prelude.{◌≡◌, List, [], ◌∷◌, Some, option_map, codes, false, true, fold, is_some}
use Rattle.clap.specs.Words.{App, Row, Text, Kinds, fault_of, first_of, new_app, with_rule}
use Rattle.clap.specs.{Kinds.or_else, Simple.on_top, declared.error.kind.ErrorKind.TheVariants.InvalidValue}
use Rattle.command_line.specs.{Asked.IsFlag, Commands.rule_as, declared.view.ViewWords.ViewWords}
use Rattle.command_line.specs.declared.arguments.Shape.TheVariants.{Word, FreeWord, Value, Output, Flag}

-- `dualnet-view FILE [JOURNAL] [--times PATH] [--output PATH] [--json]`
abbrev pub view_program : App
view_program = fold with_rule (on_top (λ s. record s { has_version = true }) (new_app (codes "dualnet-view"))) (
    rule_as Word (codes "file") ∷ rule_as FreeWord (codes "journal") ∷ rule_as Value (codes "times") ∷ rule_as Output (codes "output")
    ∷ rule_as Flag (codes "json") ∷ [])

-- the matches: a file; a journal, a document of times and an output if they are given; and whether JSON is asked for
abbrev pub IsView : List Row → ViewWords → Type 0
IsView rows w = (first_of (codes "file") rows ≡ Some (w.file).now)
    × (first_of (codes "journal") rows ≡ option_map (λ path. path.now) w.journal)
    × (first_of (codes "times") rows ≡ option_map (λ path. path.now) w.times)
    × (first_of (codes "output") rows ≡ option_map (λ path. path.now) w.output)
    × IsFlag rows (codes "json") w.json

-- of a journal and a document of times one is named, or none
abbrev pub NamesOneRun : ViewWords → Type 0
NamesOneRun w = is_some w.journal ≡ true → is_some w.times ≡ false

-- the kinds of error that the words may give
abbrev pub view_kinds_of : List Text → Kinds
view_kinds_of words = or_else (fault_of view_program words) (InvalidValue ∷ [])
