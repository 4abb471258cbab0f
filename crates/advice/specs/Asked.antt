-- Where more is to be told of a fault.
use Rattle.std.specs.Prelude.{List, ℕ, Option, Some, None, if◌then◌else◌}
use Rattle.std.specs.Borrow.{Bor}
use Rattle.command_line.specs.declared.words.Words.{Words}
use Rattle.command_line.specs.declared.words.Words.TheVariants.{Check, Run, Replay, Time, Explain, Shell}

-- the scenario in which the fault is, where it is asked for
abbrev pub explained_file : Words → Option (Bor (List ℕ))
explained_file (Check file explain) = if explain then Some file else None
explained_file (Run file threads workers journal no_journal explain format progress) = if explain then Some file else None
explained_file (Replay file journal explain format progress) = if explain then Some file else None
explained_file (Time file times spells explain format) = if explain then Some file else None
explained_file (Explain kind) = None
explained_file (Shell file journal no_journal explain format) = if explain then Some file else None
