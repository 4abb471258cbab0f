-- How a replay ends.
use Rattle.std.specs.Prelude.{◌≡◌, ℕ, ◌≤◌, ◌⊎◌, nat_lt, if◌then◌else◌, List, Option, Some, None, length, take}
use Rattle.network_model.specs.{declared.step.Step.Step, declared.step.Refusal.Refusal, declared.step.Refusal.TheVariants.JournalFull, Journal.most_steps, Step.refusal, World.World, World.opening, Run.Runs}
use Rattle.world.specs.Steps.{StopsAt}
use Rattle.texts.specs.Words.{Text}
use Rattle.script.specs.Reading.{Parts}
use Rattle.journal.specs.{declared.fault.JournalFault.JournalFault, declared.read.Version.Version, declared.read.Version.TheVariants.Two, Journal.IsJournal, Journal.IsJournalFault as IsJournalFault}
use Rattle.plans.specs.{declared.fault.Fault.Fault, declared.outcome.Outcome.Outcome, declared.outcome.Outcome.TheVariants.Done, declared.outcome.Outcome.TheVariants.Refused, declared.outcome.Outcome.TheVariants.Differs, Scenarios.IsScenario, Scenarios.StopsReading, Scenarios.network_read}
use Rattle.plans.specs.Faults.{journal_fault, most_bytes, most_journal_bytes, Gives, IsUnreadFrom}

-- why a step of a journal is refused, of which so many were done: a journal has no place for more, or as the world refuses it
abbrev pub replay_refusal : World → ℕ → Step → Option Refusal
replay_refusal w done s = if nat_lt done most_steps then refusal w s else Some JournalFull

-- the lines are the journal of these steps, of a version and of the network of a scenario
pub record IsJournalOf (bytes lines : Text) (parts : Parts) (version : Version) (steps : List Step) : Type 0 where
  pub short : length bytes ≤ most_bytes
  pub scenario : IsScenario bytes parts
  pub report : Text
  pub journal : IsJournal parts.names parts.links parts.attachments lines version steps report

-- all steps of the journal of this version were done, each of them lawful
pub record RunsWhole (bytes lines : Text) (version : Version) : Type 0 where
  pub parts : Parts
  pub steps : List Step
  pub is_journal : IsJournalOf bytes lines parts version steps
  pub world : World
  pub runs : Runs (opening (network_read parts)) steps world

-- a journal has a place for each of the steps
abbrev pub RunsInPlaces : Text → Text → Version → Type 0
RunsInPlaces bytes lines version = (whole : RunsWhole bytes lines version) × (length whole.steps ≤ most_steps)

-- the steps of the journal before one that is refused were done, and a journal has a place for each of them
pub record RunsToRefusal (bytes lines : Text) : Type 0 where
  pub parts : Parts
  pub version : Version
  pub steps : List Step
  pub is_journal : IsJournalOf bytes lines parts version steps
  pub done : ℕ
  pub world : World
  pub few : done ≤ most_steps
  pub runs : Runs (opening (network_read parts)) (take done steps) world
  pub refused : Refusal
  pub stops : StopsAt (replay_refusal world done) steps done refused

-- these steps were done, from one world to the other, and a journal has a place for each
abbrev pub StepsRun : List Step → World → World → Type 0
StepsRun steps w v = (length steps ≤ most_steps) × Runs w steps v

-- how a replay of these steps of a journal of this version ends, from one world to the other: a report of the first version never differs
abbrev pub StepsReplay : Version → List Step → World → World → Outcome → Type 0
StepsReplay version steps w v Done = StepsRun steps w v
StepsReplay version steps w v Refused = (done : ℕ) × (e : Refusal) × (done ≤ most_steps) × Runs w (take done steps) v × StopsAt (replay_refusal v done) steps done e
StepsReplay version steps w v Differs = (version ≡ Two) × StepsRun steps w v

-- how a replay ends: a report of the first version never differs
abbrev pub Replays : Text → Text → Outcome → Type 0
Replays bytes lines Done = (version : Version) × RunsInPlaces bytes lines version
Replays bytes lines Refused = RunsToRefusal bytes lines
Replays bytes lines Differs = RunsInPlaces bytes lines Two

-- why a journal of the network of a scenario, which is read first, is not read: its reader fails, memory runs out, it is too long, or it is no such journal
abbrev pub StopsJournal : Text → Option Text → Fault → Type 0
StopsJournal bytes journal fault = (parts : Parts) × IsScenario bytes parts × (lines : Text) × Gives journal lines × (
    ((fault.place ≡ None) × IsUnreadFrom most_journal_bytes lines fault.kind)
    ⊎ ((e : JournalFault) × IsJournalFault parts.names parts.links parts.attachments lines e × (fault ≡ journal_fault e)))

-- why a replay is not begun: for its scenario, or else for its journal
abbrev pub StopsReplay : Text → Option Text → Fault → Type 0
StopsReplay bytes journal fault = StopsReading bytes fault ⊎ ((length bytes ≤ most_bytes) × StopsJournal bytes journal fault)
