-- Lists of events, done in the order of their moments.
use Rattle.std.specs.Prelude.{◌≡◌, ℕ, ◌≤◌, ◌<◌, ◌⊎◌, true, false, List, [], ◌∷◌, map, length, Some, slice_get, Result, Err, IsOkUnless, MatchBool, nat_lt}
use Rattle.network_model.specs.{declared.step.Step.Step, declared.step.Refusal.Refusal, World.opening, Step.Lawful, Network.IsNetwork, Run.Runs, Turns.is_settled}
use Rattle.simulation.specs.Simulation.{simulation_refusal}
use Rattle.timed_simulation.specs.{declared.events.Event.Event, declared.events.RouterTime.RouterTime, declared.fault.TimeFault.TimeFault, declared.fault.TimeFault.TheVariants.PastMoment, declared.fault.TimeFault.TheVariants.TimeSpent, declared.fault.TimeFault.TheVariants.Refused, Links.last_moment, Events.next_event, Due.IsDue, Due.IsFirst, Due.IsOnTime, Since.HoldsSince}
use Rattle.timed_simulation.specs.Timed.{Timed, after_event, after_events, is_due_at, world_of}

-- the steps of these events
abbrev pub steps_of : List Event → List Step
steps_of es = map (λ e. e.step) es

-- the event is the next one: it is due just then, and nothing is due sooner. Its moment is before the last, and its step is lawful
pub record IsNext (t : Timed) (e : Event) : Type 0 where
  pub next : next_event t ≡ Some e
  pub due : IsDue t e
  pub first : IsFirst t e
  pub in_time : e.moment < last_moment
  pub lawful : Lawful (world_of t) e.step

-- each of these events is the next one where it is done, and together they lead from the one to the other
abbrev pub LeadsTo : Timed → List Event → Timed → Type 0
LeadsTo t [] u = t ≡ u
LeadsTo t (e ∷ es) u = IsNext t e × LeadsTo (after_event t e) es u

-- the moments of these events never decrease, from the one moment to the other
abbrev pub Ascends : ℕ → List Event → ℕ → Type 0
Ascends from [] to = from ≤ to
Ascends from (e ∷ es) to = (from ≤ e.moment) × Ascends e.moment es to

-- so many events were done, each the next one, their moments never decreased, and their steps are a run from the one world to the other
pub record IsTimedRun (old new : Timed) (done : ℕ) : Type 0 where
  pub events : List Event
  pub count : length events ≡ done
  pub leads : LeadsTo old events new
  pub ascends : Ascends old.clock events new.clock
  pub runs : Runs (world_of old) (steps_of events) (world_of new)
  pub after : new ≡ after_events old events

-- what always holds: some events whose moments never decrease, and none of which is after the present moment, lead by lawful steps from the opening of the network, which has no fault, to its world; what is left to do is on time, and since when a router has something to publish is written down right
pub record IsTimed (t : Timed) : Type 0 where
  pub valid : IsNetwork (t.simulation).network
  pub on_time : IsOnTime (world_of t) t.clock t.links t.routers t.changes
  pub done : List Event
  pub ascends : Ascends 0 done t.clock
  pub runs : Runs (opening (t.simulation).network) (steps_of done) (world_of t)
  pub since : (i : ℕ) (x : RouterTime) → slice_get t.routers i ≡ Some x → is_due_at (world_of t) i ≡ true → HoldsSince (λ w. is_due_at w i) x.since (opening (t.simulation).network) done

-- no change is left, and the network is settled
abbrev pub IsAtRest : Timed → Type 0
IsAtRest t = (t.changes ≡ []) × (is_settled (world_of t) ≡ true)

-- why an event is not done: its moment is the last one; or its step is refused so, or memory is
abbrev pub IsStoppedFor : Timed → Event → TimeFault → Type 0
IsStoppedFor t e PastMoment = ⊥
IsStoppedFor t e TimeSpent = last_moment ≤ e.moment
IsStoppedFor t e (Refused refusal) = (e.moment < last_moment) × ((refusal ≡ Refusal.NoMemory) ⊎ (simulation_refusal t.simulation e.step ≡ Some refusal))

-- no further step or moment can be counted, or there is no memory
abbrev pub IsSpent : TimeFault → Type 0
IsSpent PastMoment = ⊥
IsSpent TimeSpent = Unit {0}
IsSpent (Refused refusal) = (refusal ≡ Refusal.NoMemory) ⊎ (refusal ≡ Refusal.JournalFull)

-- the event at which a run stopped, and why. What a router has to do is lawful, so it is not done for want of memory or of numbers alone
pub record IsStoppedAt (t : Timed) (fault : TimeFault) : Type 0 where
  pub event : Event
  pub next : next_event t ≡ Some event
  pub cause : IsStoppedFor t event fault
  pub own : event.given ≡ false → IsSpent fault

-- a run up to a moment stopped short: the next event is due by then, and fewer events were done than it might have done
pub record IsStoppedShort (moment most done : ℕ) (t : Timed) : Type 0 where
  pub event : Event
  pub next : next_event t ≡ Some event
  pub due : event.moment ≤ moment
  pub few : done < most

-- a change for this moment is taken if that is not past, unless memory runs out
abbrev pub IsGivenOr : {X : Type 0} → ℕ → ℕ → Result X TimeFault → Type 0
IsGivenOr now moment r = MatchBool (nat_lt moment now) (r ≡ Err PastMoment) (IsOkUnless r (Refused Refusal.NoMemory))
