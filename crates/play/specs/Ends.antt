-- How a check ends, and what is kept of a run.
use Rattle.std.specs.Prelude.{◌≡◌, Bool, false, true, ◌≤◌, ◌++◌, Option, length}
use Rattle.std.specs.Io.KnownBytes.{Appends}
use Rattle.fabric.specs.Fabric.{Fabric}
use Rattle.texts.specs.Words.{Text}
use Rattle.script.specs.{Reading.Parts, Directories.Directory}
use Rattle.journal.specs.Journal.{journal_text}
use Rattle.plans.specs.{declared.plan.Plan.Plan, Faults.OfBytes, Faults.most_bytes, Scenarios.IsScenario}
use Rattle.plans.proofs.Planned.{IsPlanned}

-- ---- check

-- the plan is that of the text that a reader gives
abbrev pub IsPlannedFrom : Option Text → Plan → Type 0
IsPlannedFrom known plan = OfBytes known (λ bytes. (length bytes ≤ most_bytes) × IsPlanned bytes plan)

-- the bytes are those of a scenario whose network can be opened
pub record IsChecked (bytes : Text) : Type 0 where
  pub short : length bytes ≤ most_bytes
  pub parts : Parts
  pub scenario : IsScenario bytes parts

-- ---- journals that are kept

-- the text of a fabric's journal was added, if it is wanted: its steps, and then a report
abbrev pub KeepsJournal : Bool → Directory → Fabric → Option Text → Option Text → Type 0
KeepsJournal true d f old new = (report : Text) × Appends old new (journal_text d f.network.links f.journal ++ report)
KeepsJournal false d f old new = new ≡ old
