-- Runs in which changes are done, or refused and taken off.
use Rattle.std.specs.Prelude.{◌≡◌, ◌≤◌, ◌⊎◌, ℕ, true, List, [], ◌∷◌, Option, Some, MatchOption, slice_get}
use Rattle.faults.specs.declared.kind.FaultKind.{FaultKind}
use Rattle.network_model.specs.{declared.step.Refusal.Refusal, Turns.is_settled}
use Rattle.simulation.specs.Simulation.{simulation_refusal}
use Rattle.plans.specs.{declared.fault.Fault.Fault, Faults.refused_fault, Faults.unplaced}
use Rattle.timed_simulation.specs.{declared.events.Change.Change, declared.events.Event.Event, Events.next_event, Due.IsDue, Runs.IsNext, Runs.IsTimedRun}
use Rattle.timed_simulation.specs.Timed.{Timed, after_event, with_timed_change, world_of}
use Rattle.timed_reports.specs.Recordings.{without_first}
use Rattle.timing.specs.{declared.snapshot.Snapshot.Snapshot, declared.snapshot.Begun.Begun}

-- how far a run is
abbrev pub snapshot_of : Timed → Snapshot
snapshot_of t = record { now = t.clock; counts = record { steps = (t.simulation).steps; sent = (t.simulation).sent }; rests = is_settled (world_of t) }

-- with these changes given, one after another
abbrev pub with_changes : List Change → Timed → Timed
with_changes [] t = t
with_changes (c ∷ cs) t = with_changes cs (with_timed_change c t)

-- what is done next comes: it is done; or it is a change whose step is refused for this reason, and it is taken off
abbrev pub ComesNext : Timed → Event → Timed → Option Refusal → Type 0
ComesNext t e u refusal = MatchOption refusal
    (IsNext t e × (u ≡ after_event t e))
    (λ r. (e.given ≡ true) × (simulation_refusal t.simulation e.step ≡ Some r) × (u ≡ without_first t))

-- a change is what is done next, and comes
pub record IsBegun (t : Timed) (b : Begun) (u : Timed) : Type 0 where
  pub next : next_event t ≡ Some b.event
  pub given : (b.event).given ≡ true
  pub before : b.before ≡ snapshot_of t
  pub ends : ComesNext t b.event u b.refusal

-- some events, each the next one, lead from the one to the other. None of them is a change that was given: the changes to come stay the same
pub record LeadsAlone (t u : Timed) : Type 0 where
  pub done : ℕ
  pub run : IsTimedRun t u done
  pub changes : u.changes ≡ t.changes

-- events of the routers alone lead to the first change, and behind it to each of the others, and from the last on
abbrev pub Leads : Timed → List Begun → Timed → Type 0
Leads t [] u = LeadsAlone t u
Leads t (b ∷ bs) u = (mid next : Timed) × LeadsAlone t mid × IsBegun mid b next × Leads next bs u

-- a change is to come, and nothing that is left to do is due before the first
pub record IsReady (t : Timed) : Type 0 where
  pub change : Change
  pub at : slice_get t.changes 0 ≡ Some change
  pub first : (d : Event) → IsDue t d → change.moment ≤ d.moment

-- why events are not done to the last: the clock is spent, a step is refused, or memory runs out
abbrev pub IsOfEvents : Fault → Type 0
IsOfEvents fault = (fault ≡ unplaced FaultKind.TimeSpent) ⊎ ((e : Refusal) × (fault ≡ refused_fault e)) ⊎ (fault ≡ unplaced FaultKind.NoMemory)
