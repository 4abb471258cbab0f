-- The lines that tell of a run.
use Rattle.std.specs.Prelude.{◌≡◌, ℕ, zero, suc, ◌+◌, ◌-◌, ◌%◌, ◌==◌, ◌||◌, Bool, List, [], ◌∷◌, Option, None, if◌then◌else◌, filter, length, option_map, slice_get, take}
use Rattle.std.specs.List.{range_with_len}
use Rattle.network_model.specs.{declared.network.LinkSpec.LinkSpec, declared.step.Step.Step, World.Network, World.World, World.opening, Run.Runs}
use Rattle.serde_json.specs.Written.{compact_text}
use Rattle.texts.specs.{Words.Text, Lines.lines_text}
use Rattle.script.specs.Directories.{Directory}
use Rattle.journal.specs.Steps.{step_text}
use Rattle.run_states.specs.{declared.recorder.Changes.Changes, declared.recorder.Recorder.Recorder, Values.opening_data, Values.state_data}
use Rattle.run_states.specs.Recorders.{ArePrefixesOf, RecorderFollows, IsBlank, IsRecorderOf, ShowSame, ShowsWorld}

-- ---- which states are told

-- after how many steps there is a state each: after each step where 0 is asked for
abbrev pub stride : ℕ → ℕ
stride every = if every == 0 then 1 else every

-- whether the state after so many of the steps is told: that at the opening, after each so many, and after the last
abbrev pub is_told : ℕ → ℕ → ℕ → Bool
is_told every last k = (k % every == 0) || (k == last)

-- the numbers of the states that are told, from this one on
abbrev pub numbers_from : ℕ → ℕ → ℕ → List ℕ
numbers_from every last k = filter (is_told every last) (range_with_len k (last + 1 - k))

-- the numbers of the states that are told
abbrev pub numbers_told : ℕ → ℕ → List ℕ
numbers_told every last = numbers_from every last 0

-- ---- what their lines say

-- the text of the step after which a state is; at the opening there is none
abbrev pub step_told : Directory → List LinkSpec → List Step → ℕ → Option Text
step_told d links steps zero = None
step_told d links steps (suc k) = option_map (step_text d links) (slice_get steps k)

-- the moment of the step after which a state is, if moments are known; at the opening there is none
abbrev pub moment_told : List ℕ → ℕ → Option ℕ
moment_told moments zero = None
moment_told moments (suc k) = slice_get moments k

-- the line of the state after so many of the steps: what it says has changed leads from what was shown before to the world after these steps
pub record IsStateLine (n : Network) (d : Directory) (steps : List Step) (moments : List ℕ) (k : ℕ) (before after : Recorder) (line : Text) : Type 0 where
  pub world : World
  pub runs : Runs (opening n) (take k steps) world
  pub changes : Changes
  pub follows : RecorderFollows changes before after
  pub shows : ShowsWorld world after
  pub text : line ≡ compact_text (state_data world (after.prefixes).items k (step_told d n.links steps k) (moment_told moments k) changes)

-- the lines tell of the states of these numbers, one each: the first by what has changed since this was shown, each other since the one before it
abbrev pub Tell : Network → Directory → List Step → List ℕ → List ℕ → Recorder → List Text → Type 0
Tell n d steps moments [] shown lines = lines ≡ []
Tell n d steps moments (k ∷ ks) shown lines = (line : Text) × (rest : List Text) × (before : Recorder) × (after : Recorder) × (lines ≡ line ∷ rest)
    × ShowSame shown before × IsStateLine n d steps moments k before after line × Tell n d steps moments ks after rest

-- the text of the states of these steps, with the moment of each if it is known: the opening's line, and a line for each state that is told, where nothing was shown before the first
pub record IsStatesText (n : Network) (d : Directory) (steps : List Step) (moments : List ℕ) (every : ℕ) (text : Text) : Type 0 where
  pub blank : Recorder
  pub is_blank : IsBlank blank
  pub of : IsRecorderOf (opening n) blank
  pub prefixes : ArePrefixesOf n.attachments (blank.prefixes).items
  pub lines : List Text
  pub told : Tell n d steps moments (numbers_told every (length steps)) blank lines
  pub text_is : text ≡ lines_text (λ t. t) (compact_text (opening_data n d (blank.prefixes).items (length steps) every) ∷ lines)
