-- What the calls answer, by the network that a handle holds, and what they leave.
use Rattle.std.specs.Prelude.{◌≡◌, ◌≢◌, ◌⊎◌, ℕ, ◌≤◌, ◌==◌, nat_lt, true, false, if◌then◌else◌, List, [], ◌∷◌, length, map, take, Option, Some, None, option_and_then, option_map, slice_get, is_none, Result, Ok, Err, MatchOption, IfSome}
use Rattle.std.specs.Option.{option_map_or}
use Rattle.network_model.specs.{declared.item.Held.Held, declared.step.Refusal.Refusal, declared.step.Step.Step, declared.trace.Ending.Ending, Publication.Image, Publication.image_answer, Run.Runs, Step.release_at, Turns.is_settled, Network.first_cause, World.Router, World.World}
use Rattle.network_model.specs.declared.step.Step.TheVariants.{LinkUp, LinkDown, SetCost, Deliver, Publish, Release, Attach, Detach}
use Rattle.network_model.specs.declared.trace.Ending.TheVariants.{Delivered, NoRoute, Unreachable, DeadLink, Crossed}
use Rattle.ipv4_prefix.specs.Prefix.{Prefix}
use Rattle.world.specs.Steps.{port_refusal, is_stale, DeliveryNeedsMemory}
use Rattle.c_interface.specs.{Rows.answer_row, Rows.as_prefix, Rows.prefix_fault, declared.fault.CallFault.TheVariants.Empty, declared.fault.CallFault.TheVariants.BadCount, declared.row.Row.Row}
use Rattle.single_router.specs.Publishing.{IsWrittenOver}
use Rattle.simulation.specs.{Settling.HasTurned, Settling.IsStopped, Simulation.Simulation, Simulation.after_steps, Simulation.simulation_refusal, Tracing.IsTraced}
use Rattle.network_calls.specs.{Failures.failure_number, Failures.refusal_number, Steps.parts_of_step_fault, Steps.step_of, Shown.machine_heard, declared.machine.MachineShown.MachineShown, declared.counts.Counts.Counts, declared.failure.Failure.Failure, Running.clocked_in, Running.network_in, Running.reported_in, declared.running.Going.Going, declared.running.Going.TheVariants.BySteps, declared.running.Going.TheVariants.InTime, declared.step.StepParts.StepParts}
use Rattle.network_calls.specs.declared.failure.Failure.TheVariants.{Given, HasClock, NoClock, NoRecord, Refused}

-- what a test of the network finds; that the handle holds none comes first
abbrev pub held_failure : {X : Type 0} → (X → Option Failure) → Option X → Option Failure
held_failure test None = Some (Given Empty)
held_failure test (Some s) = test s

-- why nothing is done with a network as a whole: the handle holds none
abbrev pub at_all : {X : Type 0} → Option X → Option Failure
at_all held = held_failure (λ s. None) held

-- why nothing is told of its time: the network has no clock
abbrev pub at_clock : Option Going → Option Failure
at_clock held = held_failure (λ g. option_map_or (λ t. None) (clocked_in g) (Some NoClock)) held

-- why nothing is told of its record: the network keeps none
abbrev pub at_record : Option Going → Option Failure
at_record held = held_failure (λ g. option_map_or (λ r. None) (reported_in g) (Some NoRecord)) held

-- what the test of router i finds; that there is none comes first
abbrev pub router_fault : {X : Type 0} → (X → Option Failure) → List X → ℕ → Option Failure
router_fault test xs i = option_map_or test (slice_get xs i) (Some (Refused Refusal.UnknownRouter))

-- ---- steps

-- why the network does not do this step: it is refused, or the network is in simulated time, where its caller does none
abbrev pub step_failure : Step → Going → Option Failure
step_failure step (BySteps s) = option_map (λ e. Refused e) (simulation_refusal s step)
step_failure step (InTime r) = Some HasClock

-- the same of the step of these parts, of which a fault comes first
abbrev pub running_fault : StepParts → Going → Option Failure
running_fault parts g = option_map_or (λ f. Some (Given f)) (parts_of_step_fault parts) (step_failure (step_of parts) g)

-- the same of the network that a handle holds
abbrev pub step_fault : StepParts → Option Going → Option Failure
step_fault parts held = option_map_or (λ f. Some (Given f)) (parts_of_step_fault parts) (held_failure (step_failure (step_of parts)) held)

-- what a step may need memory for: all but a link that goes down, the release of a message that is stale, and a delivery at a router with room
abbrev pub StepNeedsMemory : Step → World → Type 0
StepNeedsMemory (LinkUp l) w = Unit {0}
StepNeedsMemory (LinkDown l) w = ⊥
StepNeedsMemory (SetCost i q cost) w = Unit {0}
StepNeedsMemory (Deliver i q) w = DeliveryNeedsMemory w i q
StepNeedsMemory (Publish i) w = Unit {0}
StepNeedsMemory (Release i) w = (h : Held) → release_at w i ≡ Some h → is_stale w i h ≡ false
StepNeedsMemory (Attach i p cost) w = Unit {0}
StepNeedsMemory (Detach i p) w = Unit {0}

-- the same of the network that a handle holds
abbrev pub HeldNeedsMemory : Step → Option Going → Type 0
HeldNeedsMemory step held = IfSome held (λ g. StepNeedsMemory step (network_in g).world)

-- refused for this cause, if there is one; else done, or refused for want of memory, where it may need some
abbrev pub IsDoneOrFails : {X : Type 0} → Option Failure → Type 0 → Result X Failure → Type 0
IsDoneOrFails None Needs (Ok x) = Unit {0}
IsDoneOrFails None Needs (Err f) = (f ≡ Refused Refusal.NoMemory) × Needs
IsDoneOrFails (Some f) Needs r = r ≡ Err f

-- these steps were done as far as this place, each lawful
pub record IsRanTo (parts : List StepParts) (old new : Simulation) (done : ℕ) : Type 0 where
  pub within : done ≤ length parts
  pub runs : Runs old.world (map step_of (take done parts)) new.world
  pub after : new ≡ after_steps old (map step_of (take done parts))

-- all were done, or the one at this place has a fault or is refused
abbrev pub StopsBy : List StepParts → Simulation → ℕ → Result (Unit {0}) Failure → Type 0
StopsBy parts new done (Ok x) = done ≡ length parts
StopsBy parts new done (Err f) = (p : StepParts) × (slice_get parts done ≡ Some p) × MatchOption (running_fault p (BySteps new)) ((f ≡ Refused Refusal.NoMemory) × StepNeedsMemory (step_of p) new.world) (λ e. f ≡ e)

-- what the call answers that runs steps: how many were done, and why it stopped
pub record IsRun (parts : List StepParts) (old new : Simulation) (done status : ℕ) : Type 0 where
  pub ran : IsRanTo parts old new done
  pub all : status ≡ 0 → done ≡ length parts
  pub stop : status ≢ 0 → (f : Failure) × StopsBy parts new done (Err f) × (status ≡ failure_number f)

-- what the call answers that lets routers take turns
pub record IsSettling (old new : Simulation) (most done status : ℕ) : Type 0 where
  pub turns : HasTurned old new done
  pub few : done ≤ most
  pub all : status ≡ 0 → (is_settled new.world ≡ true) ⊎ (done ≡ most)
  pub stop : status ≢ 0 → (e : Refusal) × IsStopped new e × (status ≡ refusal_number e)

-- ---- look-ups

-- why nothing is looked up
abbrev pub lookup_fault : ℕ → ℕ → ℕ → Option Simulation → Option Failure
lookup_fault i addrs answers held = held_failure (λ s. router_fault (λ (image : Image). if addrs == answers then None else Some (Given BadCount)) s.images i) held

-- the rows that an image answers for addresses
abbrev pub image_answer_rows : Image → List ℕ → List Row
image_answer_rows image addrs = map (λ addr. answer_row (image_answer image addr)) addrs

-- what the image in force at a router answers was written
abbrev pub IsAnswered : ℕ → List ℕ → List Row → Simulation → Type 0
IsAnswered i addrs answers s = IfSome (slice_get s.images i) (λ image. answers ≡ image_answer_rows image addrs)

-- ---- rows and traces

-- why nothing is told of a router
abbrev pub at_router : ℕ → Option Simulation → Option Failure
at_router i held = held_failure (λ s. router_fault (λ (r : Router). None) s.world.routers i) held

-- the rows that a router has in force were written, as many as there was room for
pub record AreRowsListed (r : Router) (old new : List Row) (written more : ℕ) : Type 0 where
  pub rows : IsWrittenOver (take (length old) (r.table).published) old new
  pub count : written ≡ length (take (length old) (r.table).published)
  pub more_is : more ≡ (if nat_lt (length old) (length (r.table).published) then 1 else 0)

-- the number of the end of a packet; 255 where it was not followed to its end
abbrev pub ending_number : Option Ending → ℕ
ending_number (Some Delivered) = 0
ending_number (Some NoRoute) = 1
ending_number (Some Unreachable) = 2
ending_number (Some DeadLink) = 3
ending_number (Some Crossed) = 4
ending_number None = 255

-- a packet was followed: the routers that it passes were written, and the number of its end
pub record IsFollowed (s : Simulation) (addr i : ℕ) (old new : List ℕ) (count number : ℕ) : Type 0 where
  pub end : Option Ending
  pub traced : IsTraced s addr i old new count end
  pub is : number ≡ ending_number end

-- ---- what is shown

-- why nothing is shown of a link
abbrev pub at_link : ℕ → Option Simulation → Option Failure
at_link l held = held_failure (λ s. if nat_lt l (length s.world.links) then None else Some (Refused Refusal.UnknownLink)) held

-- of the port of a router
abbrev pub at_router_port : ℕ → ℕ → Option Simulation → Option Failure
at_router_port i q held = held_failure (λ s. option_map (λ e. Refused e) (port_refusal s.world i q)) held

-- a router's machine for a prefix, where the router has heard of it
abbrev pub shown_machine : World → ℕ → Prefix → Option MachineShown
shown_machine w i p = option_and_then (machine_heard p) (slice_get w.routers i)

-- why none is shown
abbrev pub machine_refusal : World → ℕ → Prefix → Option Refusal
machine_refusal w i p = first_cause ((is_none (slice_get w.routers i), Refusal.UnknownRouter) ∷ (is_none (shown_machine w i p), Refusal.UnknownPrefix) ∷ [])

-- the same of the network that a handle holds; a fault of the prefix comes first
abbrev pub at_machine : ℕ → ℕ → ℕ → Option Simulation → Option Failure
at_machine i addr len held = option_map_or (λ f. Some (Given f)) (prefix_fault addr len) (held_failure (λ s. option_map (λ e. Refused e) (machine_refusal s.world i (as_prefix addr len))) held)

-- ---- numbers

-- how many steps were done, and how many messages of each kind they put on links
abbrev pub counts_of : Simulation → Counts
counts_of s = record { steps = s.steps; updates = (s.sent).updates; queries = (s.sent).queries; replies = (s.sent).replies }
