-- Worked examples: what clap's definition of the command line makes of some words.
use Rattle.std.proofs.Common.{◌≡◌, List, [], ◌∷◌, Option, Some, None, codes, refl}
use Rattle.clap.specs.Words.{Kinds, Text, fault_of, subcommand_of}
use Rattle.clap.specs.declared.error.kind.ErrorKind.TheVariants.{ArgumentConflict, DisplayHelp, DisplayVersion, InvalidSubcommand, InvalidValue, MissingRequiredArgument, MissingSubcommand, UnknownArgument, ValueValidation}
use Rattle.clap.proofs.OnLiterals.{clap_on_literals}
use Rattle.command_line.specs.Commands.{program}
use Rattle.command_line.proofs.Lines.{Seen, seen}

abbrev asks : List Text → Kinds
asks words = fault_of program (codes "dualnet" ∷ words)

abbrev finds : List Text → Option Seen
finds words = seen (subcommand_of program (codes "dualnet" ∷ words))

-- ---- what is taken

after_hyphens : asks (codes "run" ∷ codes "--" ∷ codes "-a.toml" ∷ []) ≡ []
unfolding clap_on_literals
after_hyphens = refl

file_after_hyphens : finds (codes "run" ∷ codes "--" ∷ codes "-a.toml" ∷ [])
    ≡ Some (record { name = codes "run"; file = Some (codes "-a.toml"); threads = Some (codes "1"); workers = Some (codes "1"); journal = None; no_journal = Some (codes "false"); explain = Some (codes "false"); format = Some (codes "text"); progress = Some (codes "false") })
unfolding clap_on_literals
file_after_hyphens = refl

options_after : asks (codes "run" ∷ codes "a" ∷ codes "--threads" ∷ codes "4" ∷ codes "--workers" ∷ codes "16" ∷ codes "--journal" ∷ codes "b" ∷ []) ≡ []
unfolding clap_on_literals
options_after = refl

found_after : finds (codes "run" ∷ codes "a" ∷ codes "--threads" ∷ codes "4" ∷ codes "--workers" ∷ codes "16" ∷ codes "--journal" ∷ codes "b" ∷ [])
    ≡ Some (record { name = codes "run"; file = Some (codes "a"); threads = Some (codes "4"); workers = Some (codes "16"); journal = Some (codes "b"); no_journal = Some (codes "false"); explain = Some (codes "false"); format = Some (codes "text"); progress = Some (codes "false") })
unfolding clap_on_literals
found_after = refl

options_before : asks (codes "run" ∷ codes "--workers=16" ∷ codes "--threads=4" ∷ codes "a" ∷ []) ≡ []
unfolding clap_on_literals
options_before = refl

found_before : finds (codes "run" ∷ codes "--workers=16" ∷ codes "--threads=4" ∷ codes "a" ∷ [])
    ≡ Some (record { name = codes "run"; file = Some (codes "a"); threads = Some (codes "4"); workers = Some (codes "16"); journal = None; no_journal = Some (codes "false"); explain = Some (codes "false"); format = Some (codes "text"); progress = Some (codes "false") })
unfolding clap_on_literals
found_before = refl

explained : finds (codes "check" ∷ codes "a" ∷ codes "--explain" ∷ [])
    ≡ Some (record { name = codes "check"; file = Some (codes "a"); threads = None; workers = None; journal = None; no_journal = None; explain = Some (codes "true"); format = None; progress = None })
unfolding clap_on_literals
explained = refl

formatted : finds (codes "run" ∷ codes "a" ∷ codes "--format" ∷ codes "json" ∷ codes "--progress" ∷ [])
    ≡ Some (record { name = codes "run"; file = Some (codes "a"); threads = Some (codes "1"); workers = Some (codes "1"); journal = None; no_journal = Some (codes "false"); explain = Some (codes "false"); format = Some (codes "json"); progress = Some (codes "true") })
unfolding clap_on_literals
formatted = refl

replay_formatted : finds (codes "replay" ∷ codes "a" ∷ codes "--format=json" ∷ codes "b" ∷ [])
    ≡ Some (record { name = codes "replay"; file = Some (codes "a"); threads = None; workers = None; journal = Some (codes "b"); no_journal = None; explain = Some (codes "false"); format = Some (codes "json"); progress = Some (codes "false") })
unfolding clap_on_literals
replay_formatted = refl

unkept : finds (codes "run" ∷ codes "a" ∷ codes "--no-journal" ∷ [])
    ≡ Some (record { name = codes "run"; file = Some (codes "a"); threads = Some (codes "1"); workers = Some (codes "1"); journal = None; no_journal = Some (codes "true"); explain = Some (codes "false"); format = Some (codes "text"); progress = Some (codes "false") })
unfolding clap_on_literals
unkept = refl

unkept_shell : finds (codes "shell" ∷ codes "--no-journal" ∷ codes "a" ∷ [])
    ≡ Some (record { name = codes "shell"; file = Some (codes "a"); threads = None; workers = None; journal = None; no_journal = Some (codes "true"); explain = Some (codes "false"); format = Some (codes "text"); progress = None })
unfolding clap_on_literals
unkept_shell = refl

number : asks (codes "explain" ∷ codes "45" ∷ []) ≡ []
unfolding clap_on_literals
number = refl

standard_input : finds (codes "shell" ∷ codes "-" ∷ codes "--journal" ∷ codes "b" ∷ [])
    ≡ Some (record { name = codes "shell"; file = Some (codes "-"); threads = None; workers = None; journal = Some (codes "b"); no_journal = Some (codes "false"); explain = Some (codes "false"); format = Some (codes "text"); progress = None })
unfolding clap_on_literals
standard_input = refl

times : asks (codes "time" ∷ codes "a" ∷ codes "--format=json" ∷ codes "b" ∷ []) ≡ []
unfolding clap_on_literals
times = refl

-- ---- what is refused

version : asks (codes "--version" ∷ []) ≡ DisplayVersion ∷ []
unfolding clap_on_literals
version = refl

great_number : asks (codes "explain" ∷ codes "56" ∷ []) ≡ ValueValidation ∷ []
unfolding clap_on_literals
great_number = refl

help : asks (codes "--help" ∷ []) ≡ DisplayHelp ∷ []
unfolding clap_on_literals
help = refl

help_of_run : asks (codes "run" ∷ codes "--help" ∷ []) ≡ DisplayHelp ∷ []
unfolding clap_on_literals
help_of_run = refl

no_command : asks [] ≡ MissingSubcommand ∷ []
unfolding clap_on_literals
no_command = refl

other_command : asks (codes "fly" ∷ []) ≡ UnknownArgument ∷ InvalidSubcommand ∷ []
unfolding clap_on_literals
other_command = refl

no_file : asks (codes "run" ∷ []) ≡ MissingRequiredArgument ∷ []
unfolding clap_on_literals
no_file = refl

two_files : asks (codes "run" ∷ codes "a.toml" ∷ codes "b.toml" ∷ []) ≡ UnknownArgument ∷ []
unfolding clap_on_literals
two_files = refl

no_threads : asks (codes "run" ∷ codes "a" ∷ codes "--threads" ∷ codes "0" ∷ []) ≡ ValueValidation ∷ []
unfolding clap_on_literals
no_threads = refl

many_threads : asks (codes "run" ∷ codes "a" ∷ codes "--threads" ∷ codes "17" ∷ []) ≡ ValueValidation ∷ []
unfolding clap_on_literals
many_threads = refl

threads_twice : asks (codes "run" ∷ codes "a" ∷ codes "--threads=2" ∷ codes "--threads=2" ∷ []) ≡ ArgumentConflict ∷ []
unfolding clap_on_literals
threads_twice = refl

no_number : asks (codes "run" ∷ codes "a" ∷ codes "--workers" ∷ codes "x" ∷ []) ≡ ValueValidation ∷ []
unfolding clap_on_literals
no_number = refl

missing_number : asks (codes "run" ∷ codes "a" ∷ codes "--threads" ∷ []) ≡ InvalidValue ∷ []
unfolding clap_on_literals
missing_number = refl

option_of_run : asks (codes "check" ∷ codes "a" ∷ codes "--threads" ∷ codes "2" ∷ []) ≡ UnknownArgument ∷ []
unfolding clap_on_literals
option_of_run = refl

format_of_check : asks (codes "check" ∷ codes "a" ∷ codes "--format" ∷ codes "json" ∷ []) ≡ UnknownArgument ∷ []
unfolding clap_on_literals
format_of_check = refl

no_times : asks (codes "time" ∷ codes "a" ∷ []) ≡ MissingRequiredArgument ∷ []
unfolding clap_on_literals
no_times = refl

no_journal : asks (codes "replay" ∷ codes "a" ∷ []) ≡ MissingRequiredArgument ∷ []
unfolding clap_on_literals
no_journal = refl
