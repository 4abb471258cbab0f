-- The files that a command names.
use Rattle.std.specs.Prelude.{List, ℕ, Option, Some, None}
use Rattle.std.specs.Borrow.{Bor}
use Rattle.command_line.specs.declared.words.Words.{Words}
use Rattle.command_line.specs.declared.words.Words.TheVariants.{Check, Run, Replay, Time, Explain, Shell}

-- the scenario
abbrev pub scenario_of : Words → Option (Bor (List ℕ))
scenario_of (Check file explain) = Some file
scenario_of (Run file threads workers journal no_journal explain format progress) = Some file
scenario_of (Replay file journal explain format progress) = Some file
scenario_of (Time file times spells explain format) = Some file
scenario_of (Explain kind) = None
scenario_of (Shell file journal no_journal explain format) = Some file

-- the file that is read beside it: the journal of a replay, or the document of times
abbrev pub read_beside : Words → Option (Bor (List ℕ))
read_beside (Replay file journal explain format progress) = Some journal
read_beside (Time file times spells explain format) = Some times
read_beside _ = None

-- the journal that is written: that of a run or a shell, where it names one
abbrev pub kept_journal : Words → Option (Bor (List ℕ))
kept_journal (Run file threads workers journal no_journal explain format progress) = journal
kept_journal (Shell file journal no_journal explain format) = journal
kept_journal _ = None
