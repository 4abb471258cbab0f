-- The steps of a run in simulated time, each with its moment.
use Rattle.std.specs.Prelude.{◌≡◌, ℕ, List, [], ◌∷◌, ◌++◌, map, Option, Some, None}
use Rattle.network_model.specs.{declared.step.Step.Step, declared.step.Refusal.Refusal, World.Network}
use Rattle.timed_simulation.specs.{declared.events.Event.Event, Timed.Timed, Timed.opening_timed, Due.NothingIsDue, Runs.steps_of}
use Rattle.timing.specs.{declared.times.Times.Times, Runs.ComesNext, Runs.with_changes}

-- an event, and why it was refused if it was
pub record Came : Type 0 where
  pub event : Event
  pub refusal : Option Refusal

-- each of these was what had to be done next, and came
abbrev pub AllCome : Timed → List Came → Timed → Type 0
AllCome t [] u = t ≡ u
AllCome t (c ∷ cs) u = (mid : Timed) × ComesNext t c.event mid c.refusal × AllCome mid cs u

-- the event, if it was not refused
abbrev pub if_done : Option Refusal → Event → List Event
if_done None e = e ∷ []
if_done (Some r) e = []

-- the events that were done
abbrev pub done_of : List Came → List Event
done_of [] = []
done_of (c ∷ cs) = if_done c.refusal c.event ++ done_of cs

-- the moments of these events
abbrev pub event_moments : List Event → List ℕ
event_moments es = map (λ e. e.moment) es

-- what was done from the one network to the other: these steps, at these moments
pub record IsDoneAt (t : Timed) (steps : List Step) (moments : List ℕ) (u : Timed) : Type 0 where
  pub came : List Came
  pub leads : AllCome t came u
  pub steps_are : steps ≡ steps_of (done_of came)
  pub moments_are : moments ≡ event_moments (done_of came)

-- a network with these delays was given these changes, and did these steps at these moments, until nothing was left to do
pub record RunsInSteps (n : Network) (times : Times) (steps : List Step) (moments : List ℕ) (end : Timed) : Type 0 where
  pub done : IsDoneAt (with_changes times.changes.items (opening_timed n times.links.items times.routers.items)) steps moments end
  pub rest : NothingIsDue end
