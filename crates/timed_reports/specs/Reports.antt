-- The report of a network in simulated time: what is recorded of its computations and of the routers that are cut off.
use Rattle.std.specs.Prelude.{ℕ, ◌≡◌, List, [], ◌∷◌, ◌++◌, length}
use mathlib.Core.List.{IsPrefix}
use Rattle.network_model.specs.{Network.IsNetwork, World.opening, World.prefixes_of, Run.Runs}
use Rattle.reachability.specs.Ways.{IsCutOff}
use Rattle.timed_simulation.specs.{declared.events.Event.Event, Timed.Timed, Timed.world_of}
use Rattle.timed_simulation.specs.Runs.{Ascends, IsTimedRun, LeadsTo, steps_of}
use Rattle.timed_reports.specs.{declared.spells.Spell.Spell, declared.spells.Watched.Watched, Going.IsComputing, Records.AreInOrder, Records.AreWatched, Records.IsRecorded}

-- a network in simulated time, and what is recorded of its machines' computations and of the routers that are cut off: what has ended, and what goes on
pub record Reported : Type 0 where
  pub timed : Timed
  pub computations : List Spell
  pub computing : List Watched
  pub outages : List Spell
  pub cut_off : List Watched

-- a network with its record, of their parts
abbrev pub reported_of : Timed → List Spell → List Watched → List Spell → List Watched → Reported
reported_of timed computations computing outages cut_off = record { timed = timed; computations = computations; computing = computing; outages = outages; cut_off = cut_off }

-- the record is exact of these events, which lead from the opening to the present world, their moments ascending to the clock. The routers and prefixes that are watched stand in order
pub record IsReportOf (es : List Event) (r : Reported) : Type 0 where
  pub valid : IsNetwork ((r.timed).simulation).network
  pub ascends : Ascends 0 es (r.timed).clock
  pub runs : Runs (opening ((r.timed).simulation).network) (steps_of es) (world_of r.timed)
  pub computations : IsRecorded IsComputing (opening ((r.timed).simulation).network) es (world_of r.timed) r.computations r.computing
  pub each_computing : AreWatched (((r.timed).simulation).network).routers (prefixes_of (((r.timed).simulation).network).attachments) r.computing
  pub ordered_computing : AreInOrder (((r.timed).simulation).network).routers (prefixes_of (((r.timed).simulation).network).attachments) r.computing
  pub outages : IsRecorded IsCutOff (opening ((r.timed).simulation).network) es (world_of r.timed) r.outages r.cut_off
  pub each_cut_off : AreWatched (((r.timed).simulation).network).routers (prefixes_of (((r.timed).simulation).network).attachments) r.cut_off
  pub ordered_cut_off : AreInOrder (((r.timed).simulation).network).routers (prefixes_of (((r.timed).simulation).network).attachments) r.cut_off

-- what always holds: the record is exact of the events that were done
pub record IsReport (r : Reported) : Type 0 where
  pub done : List Event
  pub exact : IsReportOf done r

-- the lists of what ended only grew: what stood in them stands there still, at its place
pub record HasGrown (old new : Reported) : Type 0 where
  pub computations : IsPrefix old.computations new.computations
  pub outages : IsPrefix old.outages new.outages

-- with this event done, the record is exact of the events with it, and the lists of what ended only grew
pub record RecordsEvent (old : Reported) (e : Event) (new : Reported) : Type 0 where
  pub exact : (es : List Event) → IsReportOf es old → IsReportOf (es ++ e ∷ []) new
  pub grown : HasGrown old new

-- so many events were done, each the next one where it was done. The record is exact of the events with them, and the lists of what ended only grew
pub record IsReportRun (old new : Reported) (done : ℕ) : Type 0 where
  pub run : IsTimedRun old.timed new.timed done
  pub events : List Event
  pub count : length events ≡ done
  pub leads : LeadsTo old.timed events new.timed
  pub exact : (es : List Event) → IsReportOf es old → IsReportOf (es ++ events) new
  pub grown : HasGrown old new
