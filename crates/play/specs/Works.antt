-- What is done on the network of a plan, or of a scenario, and how it ends.
use Rattle.std.specs.Prelude.{◌≡◌, ◌≤◌, ◌⊎◌, ⊤, Bool, true, false, List, None, length}
use Rattle.fabric.specs.Fabric.{Fabric, opening_fabric}
use Rattle.network_model.specs.World.{Network}
use Rattle.texts.specs.Words.{Text}
use Rattle.script.specs.{Reading.Parts, Directories.Directory, Directories.directory_of, declared.command.Command.Command}
use Rattle.plans.specs.{declared.fault.Fault.Fault, declared.plan.Plan.Plan, Scenarios.IsScenario, Scenarios.StopsReading, Scenarios.network_read}
use Rattle.plans.specs.Faults.{most_bytes, CannotRead, IsWantOfMemory, IsWithoutReaders}
use Rattle.interpreter.specs.{Commands.AreDone, Commands.AreTried, Commands.StopsAtCommand, Dispatching.IsUnanswered, Nets.Meaning, Nets.kept_meaning}

-- ---- what is done on a network that was opened

-- nothing was kept of it
abbrev pub none_kept : {S : Type 0} → Directory → S → Type 0
none_kept d n = ⊤

-- some commands were tried, one after another
abbrev pub WereTried : {S : Type 0} → Meaning S → S → S → Type 0
WereTried k m n = (tried : List Command) × AreTried k tried m n

-- the lines of commands cannot be read on
pub record CannotReadOn (fault : Fault) : Type 0 where
  pub unplaced : fault.place ≡ None
  pub cannot : CannotRead fault.kind

-- where commands are typed, some were tried; else those of the script were done
abbrev pub Comes : {S : Type 0} → Meaning S → Bool → List Command → S → S → Type 0
Comes k true commands m n = WereTried k m n
Comes k false commands m n = AreDone k commands m n

-- why it stops on the way
abbrev pub Stops : {S : Type 0} → Meaning S → Bool → List Command → S → S → Fault → Type 0
Stops k true commands m n fault = CannotReadOn fault
Stops k false commands m n fault = StopsAtCommand k commands m n fault

-- workers did not answer the last jobs
abbrev pub IsWithoutAnswers : Fault → Type 0
IsWithoutAnswers fault = (fault.place ≡ None) × IsUnanswered fault.kind

-- why nothing is done on a fabric, or the answers of its workers are lost: an image has no place for a reader, or workers do not answer the last jobs
abbrev pub IsOfWorkers : Fault → Type 0
IsOfWorkers fault = IsWithoutReaders fault ⊎ IsWithoutAnswers fault

-- nothing of the kind comes of a simulation
abbrev pub IsOfNothing : Fault → Type 0
IsOfNothing fault = ⊥

-- ---- on a plan

-- a network was opened, what these commands did there made of it what it was after, and of that this was kept by these names
abbrev pub WorksOn : {S : Type 0} → (Network → S) → (List Command → S → S → Type 0) → (Directory → S → Type 0) → Network → Directory → List Command → Type 0
WorksOn {S} opened Done Keeps n d commands = (after : S) × Done commands (opened n) after × Keeps d after

-- why it stops: want of memory, or for what comes of the network that was opened, or as what is done there stops
abbrev pub StopsWorkOn : {S : Type 0} → (Network → S) → (Fault → Type 0) → (List Command → S → S → Fault → Type 0) → Network → List Command → Fault → Type 0
StopsWorkOn {S} opened Early Stops n commands fault = IsWantOfMemory fault ⊎ Early fault ⊎ ((after : S) × Stops commands (opened n) after fault)

-- the same of a plan
abbrev pub Works : {S : Type 0} → (Network → S) → (List Command → S → S → Type 0) → (Directory → S → Type 0) → Plan → Type 0
Works opened Done Keeps plan = WorksOn opened Done Keeps plan.network plan.directory plan.commands.items

-- why it stops on a plan
abbrev pub StopsWork : {S : Type 0} → (Network → S) → (Fault → Type 0) → (List Command → S → S → Fault → Type 0) → Plan → Fault → Type 0
StopsWork opened Early Stops plan fault = StopsWorkOn opened Early Stops plan.network plan.commands.items fault

-- ---- on a scenario

-- the same of the network of a scenario
pub record IsWorked {S : Type 0} (opened : Network → S) (Done : List Command → S → S → Type 0) (Keeps : Directory → S → Type 0) (bytes : Text) : Type 0 where
  pub short : length bytes ≤ most_bytes
  pub parts : Parts
  pub scenario : IsScenario bytes parts
  pub after : S
  pub done : Done parts.commands (opened (network_read parts)) after
  pub keeps : Keeps (directory_of parts.names parts.links) after

-- a scenario without faults was opened, and its work stops for this fault
pub record StopsAtWork {S : Type 0} (opened : Network → S) (Stops : List Command → S → S → Fault → Type 0) (bytes : Text) (fault : Fault) : Type 0 where
  pub short : length bytes ≤ most_bytes
  pub parts : Parts
  pub scenario : IsScenario bytes parts
  pub after : S
  pub stops : Stops parts.commands (opened (network_read parts)) after fault

-- a text stops a run while it is read, before it is opened, or at its work
abbrev pub StopsOn : {S : Type 0} → (Network → S) → (Fault → Type 0) → (List Command → S → S → Fault → Type 0) → Text → Fault → Type 0
StopsOn opened Early Stops bytes fault = StopsReading bytes fault ⊎ Early fault ⊎ StopsAtWork opened Stops bytes fault

-- the commands of a scenario were done to the end, each of their steps was lawful, and of their fabric this was kept
abbrev pub IsRunToEnd : (Directory → Fabric → Type 0) → Text → Type 0
IsRunToEnd Keeps bytes = IsWorked opening_fabric (AreDone kept_meaning) Keeps bytes
