-- The text of a journal.
use Rattle.std.specs.Prelude.{◌≡◌, ◌≢◌, ℕ, ◌+◌, ◌⊎◌, ⊤, List, [], ◌∷◌, ◌++◌, Some, length, slice_get, codes, IsUtf8}
use Rattle.std.specs.List.{AllZip}
use Rattle.ipv4_prefix.specs.Prefix.{Prefix}
use Rattle.network_model.specs.{declared.network.LinkSpec.LinkSpec, declared.step.Step.Step}
use Rattle.texts.specs.{Words.Text, Lines.lines_of}
use Rattle.script.specs.Directories.{Directory}
use Rattle.journal.specs.{declared.fault.JournalFault.JournalFault, declared.fault.JournalFault.TheVariants.BadText, declared.fault.JournalFault.TheVariants.BadLine, declared.fault.JournalFault.TheVariants.NoMemory, declared.read.Version.Version, declared.read.Version.TheVariants.One, declared.read.Version.TheVariants.Two, Steps.steps_text, Steps.SaysStep}

-- the first line
abbrev pub heading : Version → Text
heading One = codes "dualnet journal 1"
heading Two = codes "dualnet journal 2"

-- the line after the last step
abbrev pub ending : Text
ending = codes "end"

-- ---- written

-- the heading of the second version, a line for each step, and the ending
abbrev pub journal_text : Directory → List LinkSpec → List Step → Text
journal_text d links steps = (heading Two ++ 10 ∷ []) ++ steps_text d links steps ++ (ending ++ 10 ∷ [])

-- ---- read

-- the lines that come next say these steps, one each, and leave the rest of the text
pub record SaysSteps (names : List Text) (links : List LinkSpec) (attachments : List (Prefix × ℕ × ℕ)) (lines : List Text) (steps : List Step) (rest : List Text) : Type 0 where
  pub said : List Text
  pub spelled : lines ≡ said ++ rest
  pub says : AllZip (SaysStep names links attachments) said steps

-- after the heading come the lines of these steps, and then the rest
pub record HasSteps (names : List Text) (links : List LinkSpec) (attachments : List (Prefix × ℕ × ℕ)) (text : Text) (version : Version) (steps : List Step) (rest : List Text) : Type 0 where
  pub after : List Text
  pub headed : lines_of text ≡ heading version ∷ after
  pub says : SaysSteps names links attachments after steps rest

-- the text of a journal: UTF-8, of the heading, a line for each step, the ending, and then the report
abbrev pub IsJournal : List Text → List LinkSpec → List (Prefix × ℕ × ℕ) → Text → Version → List Step → Text → Type 0
IsJournal names links attachments text version steps report = IsUtf8 text × HasSteps names links attachments text version steps (ending ∷ lines_of report)

-- neither the ending nor a step comes first
abbrev pub HasNoStep : List Text → List LinkSpec → List (Prefix × ℕ × ℕ) → List Text → Type 0
HasNoStep names links attachments [] = ⊤
HasNoStep names links attachments (line ∷ rest) = (line ≢ ending) × ((s : Step) → ¬ (SaysStep names links attachments line s))

-- past the heading and the lines of some steps, the line of this number, counted from 1, is missing, or it is neither the ending nor that of a step
pub record StopsPastSteps (names : List Text) (links : List LinkSpec) (attachments : List (Prefix × ℕ × ℕ)) (text : Text) (line : ℕ) : Type 0 where
  pub version : Version
  pub steps : List Step
  pub rest : List Text
  pub has : HasSteps names links attachments text version steps rest
  pub number : line ≡ length steps + 2
  pub missing : HasNoStep names links attachments rest

-- the line of this number, counted from 1, is the first that is not what stands there in a journal, or is missing
abbrev pub IsBadAt : List Text → List LinkSpec → List (Prefix × ℕ × ℕ) → Text → ℕ → Type 0
IsBadAt names links attachments text line =
    ((line ≡ 1) × ((version : Version) → slice_get (lines_of text) 0 ≢ Some (heading version)))
    ⊎ StopsPastSteps names links attachments text line

-- why the text is not that of a journal: it is not UTF-8, or else a line; that memory runs out can come anywhere
abbrev pub IsJournalFault : List Text → List LinkSpec → List (Prefix × ℕ × ℕ) → Text → JournalFault → Type 0
IsJournalFault names links attachments text BadText = ¬ (IsUtf8 text)
IsJournalFault names links attachments text (BadLine line) = IsUtf8 text × IsBadAt names links attachments text line
IsJournalFault names links attachments text NoMemory = ⊥

-- ---- compared

-- two texts begin with the same lines, and then the line of this number, counted from 1, differs, or only one of them has it
pub record DifferAt (a b : List Text) (line : ℕ) : Type 0 where
  pub same : List Text
  pub rest : List Text
  pub other : List Text
  pub a_is : a ≡ same ++ rest
  pub b_is : b ≡ same ++ other
  pub number : line ≡ length same + 1
  pub differs : slice_get rest 0 ≢ slice_get other 0
