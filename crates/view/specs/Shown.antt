-- What is shown.
use Rattle.std.specs.Prelude.{◌≡◌, ◌≤◌, ◌⊎◌, ℕ, Bool, true, false, List, [], Option, if◌then◌else◌, length}
use Rattle.std.specs.Io.KnownBytes.{Appends}
use Rattle.network_model.specs.{declared.step.Step.Step, World.Network, World.opening, Run.Runs}
use Rattle.fabric.specs.Fabric.{Fabric}
use Rattle.texts.specs.Words.{Text}
use Rattle.script.specs.{Directories.Directory, Directories.directory_of, Reading.Parts}
use Rattle.journal.specs.declared.read.Version.{Version}
use Rattle.plans.specs.{Faults.Gives, Scenarios.IsScenario, Scenarios.network_read}
use Rattle.play.specs.{Replays.RunsWhole, Works.IsRunToEnd}
use Rattle.timed_simulation.specs.Timed.{Timed}
use Rattle.timing.specs.{declared.times.Times.Times, Times.IsTimes, Steps.RunsInSteps}
use Rattle.run_states.specs.Told.{IsStatesText}
use Rattle.view.specs.Page.{most_page_bytes, page_text}

-- states of these steps, told after so many steps each, are no more bytes than a page has. If even few states are more, only those at the
-- opening and the end are told
abbrev pub IsShort : List Step → ℕ → Text → Type 0
IsShort steps every states = (length states ≤ most_page_bytes) ⊎ (length steps ≤ every)

-- the states of these steps were written, each with its moment if that is known: as lines, one for each step, or in a page, after so many steps each
pub record IsWritten (json : Bool) (n : Network) (d : Directory) (steps : List Step) (moments : List ℕ) (old new : Option Text) : Type 0 where
  pub every : ℕ
  pub each : json ≡ true → every ≡ 1
  pub states : Text
  pub are_states : IsStatesText n d steps moments every states
  pub short : json ≡ false → IsShort steps every states
  pub written : Appends old new (if json then states else page_text states)

-- the states of the steps of a fabric were written, each of them lawful
pub record IsRunShown (json : Bool) (d : Directory) (f : Fabric) (old new : Option Text) : Type 0 where
  pub runs : Runs (opening f.network) f.journal f.world
  pub written : IsWritten json f.network d f.journal [] old new

-- the bytes are those of a scenario, and the lines are a journal of steps of its network, each of them lawful, whose states were written
pub record IsJournalShown (json : Bool) (bytes lines : Text) (old new : Option Text) : Type 0 where
  pub version : Version
  pub whole : RunsWhole bytes lines version
  pub written : IsWritten json (network_read whole.parts) (directory_of whole.parts.names whole.parts.links) whole.steps [] old new

-- the lines are a document of times of this network. It ran by that until nothing was left to do, and the states of its steps were written, each with its moment
pub record IsShownInTime (json : Bool) (n : Network) (d : Directory) (lines : Text) (old new : Option Text) : Type 0 where
  pub times : Times
  pub says : IsTimes d.names n lines times
  pub steps : List Step
  pub moments : List ℕ
  pub end : Timed
  pub runs : RunsInSteps n times steps moments end
  pub written : IsWritten json n d steps moments old new

-- the bytes are those of a scenario, and a run of its network in simulated time was shown
pub record IsTimesShown (json : Bool) (bytes lines : Text) (old new : Option Text) : Type 0 where
  pub parts : Parts
  pub scenario : IsScenario bytes parts
  pub shown : IsShownInTime json (network_read parts) (directory_of parts.names parts.links) lines old new

-- what is shown of a scenario: the run of a journal, if one is asked for; or else that of a document of times; or else that of its script
abbrev pub IsShown : Bool → Bool → Bool → Option Text → Option Text → Option Text → Text → Type 0
IsShown true times json other old new bytes = (lines : Text) × Gives other lines × IsJournalShown json bytes lines old new
IsShown false true json other old new bytes = (lines : Text) × Gives other lines × IsTimesShown json bytes lines old new
IsShown false false json other old new bytes = IsRunToEnd (λ d f. IsRunShown json d f old new) bytes
