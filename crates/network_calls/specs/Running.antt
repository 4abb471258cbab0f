-- The network that C has: one that goes on by the steps of its caller, or one in simulated time, with a record or without.
use Rattle.std.specs.Prelude.{◌≡◌, ℕ, Bool, List, Option, None, Some, option_map, option_and_then, MatchOption}
use Rattle.network_model.specs.{declared.step.Step.Step, World.Network}
use Rattle.simulation.specs.Simulation.{Simulation, after_step, opening_simulation}
use Rattle.timed_simulation.specs.{Timed.Timed, Timed.opening_timed, declared.links.LinkDelays.LinkDelays}
use Rattle.timed_reports.specs.{Reports.Reported, Recordings.report_in, Recordings.timed_in, Recordings.IsOpened, declared.recording.Recording.Recording}
use Rattle.network_calls.specs.{declared.running.Going.Going, declared.running.Going.TheVariants.BySteps, declared.running.Going.TheVariants.InTime}

-- ---- what it is

-- the network of it, without its time
abbrev pub network_in : Going → Simulation
network_in (BySteps s) = s
network_in (InTime r) = (timed_in r).simulation

-- the network, if it goes by steps
abbrev pub stepped_in : Going → Option Simulation
stepped_in (BySteps s) = Some s
stepped_in (InTime r) = None

-- the network in simulated time, if it is one, with its record or without
abbrev pub recording_in : Going → Option Recording
recording_in (BySteps s) = None
recording_in (InTime r) = Some r

-- the same without its record
abbrev pub clocked_in : Going → Option Timed
clocked_in g = option_map timed_in (recording_in g)

-- the same with its record, if it keeps one
abbrev pub reported_in : Going → Option Reported
reported_in g = option_and_then report_in (recording_in g)

-- ---- how it opens

-- one that goes by steps
abbrev pub opening_steps : Network → Going
opening_steps network = BySteps (opening_simulation network)

-- one in simulated time, which keeps a record or none
abbrev pub IsTimedOpening : Bool → Network → List LinkDelays → List ℕ → Going → Type 0
IsTimedOpening records network delays publications g = MatchOption (recording_in g) ⊥ (λ r. (timed_in r ≡ opening_timed network delays publications) × IsOpened records r)

-- ---- how it goes on

-- with this step done. In simulated time no step is done by its caller
abbrev pub with_step_done : Step → Going → Going
with_step_done step (BySteps s) = BySteps (after_step s step)
with_step_done step (InTime r) = InTime r

-- with something done to the network in simulated time
abbrev pub with_recording : (Recording → Recording) → Going → Going
with_recording f (BySteps s) = BySteps s
with_recording f (InTime r) = InTime (f r)

-- what a call by steps comes to: a network that goes by steps goes on so; of one in simulated time that is refused, and it stays
abbrev pub GoesBySteps : (Simulation → Simulation → Type 0) → Type 0 → Going → Going → Type 0
GoesBySteps Runs Refused g h = MatchOption (stepped_in g) (Refused × (h ≡ g)) (λ s. MatchOption (stepped_in h) ⊥ (Runs s))

-- what a call by moments comes to: a network in simulated time goes on so; of one that goes by steps that is refused, and it stays
abbrev pub GoesInTime : (Recording → Recording → Type 0) → Type 0 → Going → Going → Type 0
GoesInTime Runs Refused g h = MatchOption (recording_in g) (Refused × (h ≡ g)) (λ r. MatchOption (recording_in h) ⊥ (Runs r))
