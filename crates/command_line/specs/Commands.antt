-- The program's command line, as clap's definition reads it.
use Rattle.std.specs.Prelude.{◌≡◌, List, [], ◌∷◌, Some, codes, fold, pos, true, false}
use Rattle.clap.specs.Words.{App, Rule, Text, Kinds, app_of, fault_of, new_app, new_rule, with_rule, with_subcommand}
use Rattle.clap.specs.{Kinds.or_else, declared.error.kind.ErrorKind.TheVariants.InvalidValue, Simple.on_top, declared.builder.command.Command.Command, declared.builder.command.Command.TheViews.out-Command, declared.builder.value_parser.ValueParser.TheVariants.Signed, declared.builder.action.ArgAction.TheVariants.SetTrue}
use Rattle.command_line.specs.{declared.arguments.Argument.Argument, declared.arguments.Shape.Shape}
use Rattle.command_line.specs.declared.arguments.Shape.TheVariants.{Word, FreeWord, Known, Number, Value, Output, Choice, Flag}

-- the rule of an argument of this shape and name
abbrev pub rule_as : Shape → Text → Rule
-- a word that has to be there
rule_as Word id = record (new_rule id) { value_names = 1; required = true }
-- a word that may be left out
rule_as FreeWord id = record (new_rule id) { value_names = 1 }
-- a number of 1 to 55 that has to be there
rule_as Known id = record (new_rule id) { value_names = 1; required = true; parser = Some (Signed (pos 1) (pos 55)) }
-- an option with a number of 1 to 16, which is 1 if it is left out
rule_as Number id = record (new_rule id) {
  long = Some id;
  value_names = 1;
  parser = Some (Signed (pos 1) (pos 16));
  defaults = codes "1" ∷ [];
}
-- an option with a value, which may be left out
rule_as Value id = record (new_rule id) { long = Some id; value_names = 1 }
-- the same, for which `-o` is short
rule_as Output id = record (new_rule id) { long = Some id; short = Some 111; value_names = 1 }
-- an option with a word, which is `text` if it is left out
rule_as Choice id = record (new_rule id) { long = Some id; value_names = 1; defaults = codes "text" ∷ [] }
-- an option with no value, which may be left out
rule_as Flag id = record (new_rule id) { long = Some id; action = Some SetTrue }

-- the rule of an argument by its shape and its name
abbrev pub argument_rule : Argument → Rule
argument_rule a = rule_as a.shape (a.id).now

-- a command of this name, with these rules
abbrev pub app_with : Text → List Rule → App
app_with name rules = fold with_rule (new_app name) rules

-- `check FILE [--explain]`
abbrev pub check_app : App
check_app = app_with (codes "check") (rule_as Word (codes "file") ∷ rule_as Flag (codes "explain") ∷ [])

-- `run FILE [--threads N] [--workers N] [--journal PATH] [--no-journal] [--explain] [--format FORMAT] [--progress]`
abbrev pub run_app : App
run_app = app_with (codes "run") (
    rule_as Word (codes "file") ∷ rule_as Number (codes "threads") ∷ rule_as Number (codes "workers") ∷ rule_as Value (codes "journal")
    ∷ rule_as Flag (codes "no-journal") ∷ rule_as Flag (codes "explain") ∷ rule_as Choice (codes "format") ∷ rule_as Flag (codes "progress") ∷ [])

-- `replay FILE JOURNAL [--explain] [--format FORMAT] [--progress]`
abbrev pub replay_app : App
replay_app = app_with (codes "replay") (
    rule_as Word (codes "file") ∷ rule_as Word (codes "journal") ∷ rule_as Flag (codes "explain") ∷ rule_as Choice (codes "format")
    ∷ rule_as Flag (codes "progress") ∷ [])

-- `time FILE TIMES [--spells] [--explain] [--format FORMAT]`
abbrev pub time_app : App
time_app = app_with (codes "time") (
    rule_as Word (codes "file") ∷ rule_as Word (codes "times") ∷ rule_as Flag (codes "spells") ∷ rule_as Flag (codes "explain")
    ∷ rule_as Choice (codes "format") ∷ [])

-- `explain NUMBER`
abbrev pub explain_app : App
explain_app = app_with (codes "explain") (rule_as Known (codes "number") ∷ [])

-- `shell FILE [--journal PATH] [--no-journal] [--explain] [--format FORMAT]`
abbrev pub shell_app : App
shell_app = app_with (codes "shell") (
    rule_as Word (codes "file") ∷ rule_as Value (codes "journal") ∷ rule_as Flag (codes "no-journal") ∷ rule_as Flag (codes "explain")
    ∷ rule_as Choice (codes "format") ∷ [])

-- the program, which has to be given one of its commands
abbrev pub program : App
program = with_subcommand (with_subcommand (with_subcommand (with_subcommand (with_subcommand (with_subcommand
    (on_top (λ s. record s { subcommand_required = true }) (on_top (λ s. record s { has_version = true }) (new_app (codes "dualnet"))))
    check_app.top) run_app.top) replay_app.top) time_app.top) explain_app.top) shell_app.top

-- a command that reads as this, with no global argument
abbrev pub IsProgramCommand : App → Command → Type 0
IsProgramCommand app c = (app_of c ≡ app) × ((out-Command c).has_globals ≡ false)

-- the kinds of error that the words may give: those of clap's definition, and where it gives none a number that is never printed, a format that there is not, or options that do not go together
abbrev pub kinds_of : List Text → Kinds
kinds_of words = or_else (fault_of program words) (InvalidValue ∷ [])
