-- What the matches of the command line ask for.
use Rattle.std.specs.Prelude.{◌≡◌, ◌≢◌, ◌≤◌, ℕ, Bool, true, false, List, [], ◌∷◌, Option, Some, None, map, option_map, slice_index, codes, if◌then◌else◌}
use Rattle.std.specs.{Borrow.Bor, Str.Parse.IsNumeral, Str.Parse.digits_value, Str.Parse.without_leading_plus}
use Rattle.clap.specs.Words.{Row, Text, first_of, one_of}
use Rattle.command_line.specs.{declared.words.Words.Words, Formats.format_text, declared.format.Format.Format, declared.format.Format.TheVariants.Text as ForPeople}
use Rattle.faults.specs.Numbers.{kind_number}
use Rattle.command_line.specs.declared.words.Words.TheVariants.{Check, Run, Replay, Time, Explain, Shell}

-- the bytes of each word
abbrev pub word_texts : List (Bor Text) → List Text
word_texts words = map (λ w. w.now) words

-- the text is the number in decimal digits, of which a plus may stand first
abbrev pub IsNumberText : Text → ℕ → Type 0
IsNumberText text n = IsNumeral 10 (without_leading_plus text)
    × (n ≡ digits_value 10 (without_leading_plus text))

-- the matches have the number at the name, and it is at least 1, and no more than this
abbrev pub HasNumber : List Row → Text → ℕ → ℕ → Type 0
HasNumber rows id most n = (text : Text) × (one_of id rows ≡ Some text) × IsNumberText text n
    × (1 ≤ n) × (n ≤ most)

-- whether an option with no value is among the matches
abbrev pub IsFlag : List Row → Text → Bool → Type 0
IsFlag rows id is = (one_of id rows ≡ Some (codes "true") → is ≡ true)
    × (one_of id rows ≡ Some (codes "false") → is ≡ false)

-- the matches have an option with no value, and say if it is given
abbrev pub HasFlag : List Row → Text → Bool → Type 0
HasFlag rows id is = one_of id rows ≡ Some (if is then codes "true" else codes "false")

-- if steps are not kept, there is no path for a journal, and there are one thread and one worker
abbrev pub GoTogether : Bool → Option (Bor Text) → ℕ → ℕ → Type 0
GoTogether no_journal journal threads workers =
    no_journal ≡ true → (journal ≡ None) × (threads ≡ 1) × (workers ≡ 1)

-- the format at the name `format`
abbrev pub HasFormat : List Row → Format → Type 0
HasFormat rows format = first_of (codes "format") rows ≡ Some (format_text format)

-- the name of the command that was asked for
abbrev pub command_name : Words → Text
command_name (Check _ _) = codes "check"
command_name (Run _ _ _ _ _ _ _ _) = codes "run"
command_name (Replay _ _ _ _ _) = codes "replay"
command_name (Time _ _ _ _ _) = codes "time"
command_name (Explain _) = codes "explain"
command_name (Shell _ _ _ _ _) = codes "shell"

-- the matches of its command ask for this
abbrev pub AsksByMatches : List Row → Words → Type 0
-- a file
AsksByMatches rows (Check file explain) = (first_of (codes "file") rows ≡ Some file.now)
    × IsFlag rows (codes "explain") explain
-- a file, two numbers, a path if one is given, and a format; if the options do not go together, nothing is asked for
AsksByMatches rows (Run file threads workers journal no_journal explain format progress) = (first_of (codes "file") rows ≡ Some file.now)
    × HasNumber rows (codes "threads") 16 threads × HasNumber rows (codes "workers") 16 workers
    × (first_of (codes "journal") rows ≡ option_map (λ path. path.now) journal)
    × IsFlag rows (codes "explain") explain × HasFormat rows format × IsFlag rows (codes "progress") progress
    × HasFlag rows (codes "no-journal") no_journal × GoTogether no_journal journal threads workers
-- two files, and a format
AsksByMatches rows (Replay file journal explain format progress) = (first_of (codes "file") rows ≡ Some file.now)
    × (first_of (codes "journal") rows ≡ Some journal.now)
    × IsFlag rows (codes "explain") explain × HasFormat rows format × IsFlag rows (codes "progress") progress
-- two files, whether spells are asked for, and a format
AsksByMatches rows (Time file times spells explain format) = (first_of (codes "file") rows ≡ Some file.now)
    × (first_of (codes "times") rows ≡ Some times.now)
    × IsFlag rows (codes "spells") spells × IsFlag rows (codes "explain") explain × HasFormat rows format
-- the number of a fault
AsksByMatches rows (Explain kind) = HasNumber rows (codes "number") 55 (kind_number kind)
-- a file, a path if one is given, and a format; if the options do not go together, nothing is asked for
AsksByMatches rows (Shell file journal no_journal explain format) = (first_of (codes "file") rows ≡ Some file.now)
    × (first_of (codes "journal") rows ≡ option_map (λ path. path.now) journal)
    × IsFlag rows (codes "explain") explain × HasFormat rows format
    × HasFlag rows (codes "no-journal") no_journal × GoTogether no_journal journal 1 1

-- the matches of the command of this name ask for this
abbrev pub AsksAs : Text → List Row → Words → Type 0
AsksAs name rows words = (command_name words ≡ name) × AsksByMatches rows words

-- the subcommand that was met, with its matches, asks for this
abbrev pub IsAsked : Option (Text × List Row) → Words → Type 0
IsAsked met words = (rows : List Row) × (met ≡ Some (command_name words, rows)) × AsksByMatches rows words

-- the words are the program's name, the command and a file, which does not begin with a hyphen
pub record IsFileLine (command file : Text) (words : List Text) : Type 0 where
  pub name : Text
  pub spelled : words ≡ name ∷ command ∷ file ∷ []
  pub no_option : slice_index file 0 ≢ 45

-- the words are the program's name, `replay` and two files, neither of which begins with a hyphen
pub record IsReplayLine (file journal : Text) (words : List Text) : Type 0 where
  pub name : Text
  pub spelled : words ≡ name ∷ codes "replay" ∷ file ∷ journal ∷ []
  pub no_option_file : slice_index file 0 ≢ 45
  pub no_option_journal : slice_index journal 0 ≢ 45

-- what is asked for is to check this file, and to explain nothing
abbrev pub ChecksFile : Text → Words → Type 0
ChecksFile file (Check given explain) = (given.now ≡ file) × (explain ≡ false)
ChecksFile file _ = ⊥

-- what is asked for is to run this file, by one thread and one worker, to keep the steps, and to write no journal; it prints lines for people, and tells of no progress
abbrev pub RunsFile : Text → Words → Type 0
RunsFile file (Run given threads workers journal no_journal explain format progress) =
    (given.now ≡ file) × (threads ≡ 1) × (workers ≡ 1) × (journal ≡ None) × (explain ≡ false)
    × (format ≡ ForPeople) × (progress ≡ false) × (no_journal ≡ false)
RunsFile file _ = ⊥

-- what is asked for is to replay this journal over the network of this file; it prints lines for people, and tells of no progress
abbrev pub ReplaysFiles : Text → Text → Words → Type 0
ReplaysFiles file journal (Replay given steps explain format progress) =
    (given.now ≡ file) × (steps.now ≡ journal) × (explain ≡ false) × (format ≡ ForPeople)
    × (progress ≡ false)
ReplaysFiles file journal _ = ⊥
