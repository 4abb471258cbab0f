-- What the calls answer that are about time, by the network that a handle holds, and what they leave.
use Rattle.std.specs.Prelude.{◌≡◌, ◌≢◌, ◌⊎◌, ℕ, ◌<◌, ◌≤◌, nat_lt, if◌then◌else◌, true, Option, Some, None, option_map, slice_get}
use Rattle.std.specs.Option.{option_map_or}
use Rattle.timed_simulation.specs.{declared.events.Event.Event, declared.events.Change.Change, declared.fault.TimeFault.TimeFault, declared.fault.TimeFault.TheVariants.PastMoment, Timed.Timed, Due.IsDoneUntil, Due.NothingIsLate}
use Rattle.timed_simulation.specs.Runs.{IsAtRest, IsStoppedAt, IsStoppedShort, IsTimedRun}
use Rattle.network_calls.specs.{Calls.held_failure, Delays.change_fault, Failures.failure_number, Running.clocked_in, declared.failure.Failure.Failure, declared.failure.Failure.TheVariants.Given, declared.failure.Failure.TheVariants.NoClock, declared.failure.Failure.TheVariants.Time, declared.running.Going.Going, declared.step.StepParts.StepParts}

-- ---- changes

-- why a network takes no change for a moment: that is past
abbrev pub moment_failure : ℕ → Timed → Option Failure
moment_failure moment t = if nat_lt moment t.clock then Some (Time PastMoment) else None

-- the same of a network that may have no clock
abbrev pub clock_failure : ℕ → Going → Option Failure
clock_failure moment g = option_map_or (moment_failure moment) (clocked_in g) (Some NoClock)

-- the same of the network that a handle holds; a fault of the parts comes first
abbrev pub given_failure : ℕ → StepParts → Option Going → Option Failure
given_failure moment parts held = option_map_or (λ f. Some (Given f)) (change_fault parts) (held_failure (clock_failure moment) held)

-- the first change that was given, as an event at its moment
abbrev pub first_change : Timed → Option Event
first_change t = option_map (λ (c : Change). record { moment = c.moment; step = c.step; given = true }) (slice_get t.changes 0)

-- ---- runs

-- what a call answers that does events: so many, no more than it may, each in its order; and where it stopped, if not by itself
pub record HasRun (old new : Timed) (most done status : ℕ) : Type 0 where
  pub run : IsTimedRun old new done
  pub few : done ≤ most
  pub stop : status ≢ 0 → (f : TimeFault) × IsStoppedAt new f × (status ≡ failure_number (Time f))
  pub on_time : NothingIsLate new

-- the same up to a moment, that included. It is stopped only at an event that is due by then, and before it has done as many as it may
pub record IsRunUntil (moment : ℕ) (old new : Timed) (most done status : ℕ) : Type 0 where
  pub ran : HasRun old new most done status
  pub until : (done ≡ 0) ⊎ (new.clock ≤ moment)
  pub all : status ≡ 0 → IsDoneUntil moment new ⊎ (done ≡ most)
  pub short : status ≢ 0 → IsStoppedShort moment most done new

-- the same until nothing is left to do. It is stopped only before it has done as many as it may
pub record IsRunToRest (old new : Timed) (most done status : ℕ) : Type 0 where
  pub ran : HasRun old new most done status
  pub all : status ≡ 0 → IsAtRest new ⊎ (done ≡ most)
  pub fewer : status ≢ 0 → done < most

-- 1 where this is so, else 0
abbrev pub IsFlagOf : Type 0 → ℕ → Type 0
IsFlagOf P n = ((n ≡ 1) × P) ⊎ ((n ≡ 0) × (P → ⊥))
