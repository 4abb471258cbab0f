-- Delays, changes and events as C has them.
use Rattle.std.specs.Prelude.{◌≡◌, ℕ, ◌==◌, ◌&&◌, Bool, if◌then◌else◌, MatchBool, List, length, Option, None, Some}
use Rattle.coming_to_rest.specs.Worlds.{is_own}
use Rattle.network_model.specs.declared.network.Limits.{Limits}
use Rattle.c_interface.specs.{Faults.first_of, declared.fault.CallFault.CallFault, declared.fault.CallFault.TheVariants.BadCount, declared.fault.CallFault.TheVariants.BadKind}
use Rattle.single_router.specs.States.{flag}
use Rattle.timed_simulation.specs.{declared.links.LinkDelays.LinkDelays, declared.events.Event.Event}
use Rattle.network_calls.specs.{Parts.IsFaultWithin, Steps.parts_of_step, Steps.parts_of_step_fault, Steps.step_of, declared.failure.Failure.Failure, declared.failure.Failure.TheVariants.Given, declared.parts.AttachmentParts.AttachmentParts, declared.parts.FaultPlace.FaultPlace, declared.parts.LinkParts.LinkParts, declared.step.StepParts.StepParts, declared.delays.DelayParts.DelayParts, declared.delays.EventParts.EventParts}

-- ---- openings

-- the delays of a link of the numbers that C gives
abbrev pub delays_of : DelayParts → LinkDelays
delays_of d = record { to_a = d.to_a; to_b = d.to_b }

-- there are delays for each link, and one for each router
abbrev pub is_counted : ℕ → List LinkParts → List DelayParts → List ℕ → Bool
is_counted routers links delays publications = length delays == length links && length publications == routers

-- why none is opened: that a delay is missing or one too many comes first, which stands in no list
abbrev pub IsTimedFault : Limits → ℕ → List LinkParts → List AttachmentParts → List DelayParts → List ℕ → Failure × FaultPlace → Type 0
IsTimedFault limits routers links attachments delays publications f =
    MatchBool (is_counted routers links delays publications) (IsFaultWithin limits routers links attachments f) (f ≡ (Given BadCount, record { position = 0; list = 0 }))

-- ---- changes and events

-- why these parts are no change that can be given: they are no step, or one that a router does
abbrev pub change_fault : StepParts → Option CallFault
change_fault s = first_of (parts_of_step_fault s) (if is_own (step_of s) then Some BadKind else None)

-- the parts of an event; of none the step's kind is 255
abbrev pub parts_of_event : Option Event → EventParts
parts_of_event None = record { moment = 0; step = parts_of_step None; given = 0 }
parts_of_event (Some e) = record { moment = e.moment; step = parts_of_step (Some e.step); given = flag e.given }
