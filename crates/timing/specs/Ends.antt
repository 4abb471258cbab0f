-- How a run in simulated time ends.
use Rattle.std.specs.Prelude.{◌≤◌, ◌⊎◌, List, Option, length}
use Rattle.network_model.specs.World.{Network}
use Rattle.texts.specs.Words.{Text}
use Rattle.script.specs.Reading.{Parts}
use Rattle.plans.specs.{declared.fault.Fault.Fault, Faults.OfBytes, Faults.most_bytes, Scenarios.IsScenario, Scenarios.StopsReading, Scenarios.network_read}
use Rattle.timed_simulation.specs.{declared.events.Change.Change, Timed.Timed, Timed.opening_timed, Runs.IsAtRest}
use Rattle.timing.specs.{declared.times.Times.Times, declared.snapshot.Begun.Begun, Runs.IsOfEvents, Runs.Leads, Runs.with_changes, Times.IsOfTimes, Times.IsTimes}

-- a network was given these changes. Each was done or refused, and it came to rest
pub record RunsChanges (t : Timed) (changes : List Change) : Type 0 where
  pub begun : List Begun
  pub end : Timed
  pub leads : Leads (with_changes changes t) begun end
  pub rest : IsAtRest end

-- so was one with these delays
abbrev pub RunsTimes : Network → Times → Type 0
RunsTimes n times = RunsChanges (opening_timed n times.links.items times.routers.items) times.changes.items

-- the network of a scenario was run to rest with the delays and the changes of a document of times
pub record IsTimedToEnd (bytes lines : Text) : Type 0 where
  pub short : length bytes ≤ most_bytes
  pub parts : Parts
  pub scenario : IsScenario bytes parts
  pub times : Times
  pub says : IsTimes parts.names (network_read parts) lines times
  pub runs : RunsTimes (network_read parts) times

-- why a run ends before. It is for its scenario; or else for its document of times or an event that is not done. What the document's reader gives may be known
abbrev pub StopsTime : Text → Option Text → Fault → Type 0
StopsTime bytes times fault = StopsReading bytes fault ⊎ ((length bytes ≤ most_bytes) × (parts : Parts) × IsScenario bytes parts
    × (OfBytes times (λ lines. IsOfTimes lines fault) ⊎ IsOfEvents fault))
