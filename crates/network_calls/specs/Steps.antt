-- Steps as C has them.
use Rattle.std.specs.Prelude.{ℕ, ◌==◌, nat_lt, if◌then◌else◌, Option, None, Some}
use Rattle.ipv4_prefix.specs.Prefix.{Prefix}
use Rattle.network_model.specs.declared.step.Step.{Step}
use Rattle.network_model.specs.declared.step.Step.TheVariants.{LinkUp, LinkDown, SetCost, Deliver, Publish, Release, Attach, Detach}
use Rattle.c_interface.specs.{Faults.first_of, Rows.as_prefix, Rows.prefix_fault, declared.fault.CallFault.CallFault, declared.fault.CallFault.TheVariants.BadKind}
use Rattle.single_router.specs.Inputs.{cost_fault}
use Rattle.network_calls.specs.declared.step.StepParts.{StepParts}

-- the prefix, where it is one
abbrev pub step_prefix : StepParts → Prefix
step_prefix s = as_prefix s.addr s.len

-- why these parts are no step: only what the kind needs is tested
abbrev pub parts_of_step_fault : StepParts → Option CallFault
parts_of_step_fault s =
    if s.kind == 2 then cost_fault s.cost
    else if s.kind == 6 then first_of (prefix_fault s.addr s.len) (cost_fault s.cost)
    else if s.kind == 7 then prefix_fault s.addr s.len
    else if nat_lt 7 s.kind then Some BadKind else None

-- the step of these parts, by its kind
abbrev pub step_of : StepParts → Step
step_of s =
    if s.kind == 0 then LinkUp s.subject
    else if s.kind == 1 then LinkDown s.subject
    else if s.kind == 2 then SetCost s.subject s.port s.cost
    else if s.kind == 3 then Deliver s.subject s.port
    else if s.kind == 4 then Publish s.subject
    else if s.kind == 5 then Release s.subject
    else if s.kind == 6 then Attach s.subject (step_prefix s) s.cost
    else Detach s.subject (step_prefix s)

-- a step of a kind and a subject, and nothing else
abbrev pub plain_parts : ℕ → ℕ → ℕ → StepParts
plain_parts kind subject port = record { addr = 0; cost = 0; subject = subject; kind = kind; port = port; len = 0 }

-- the parts of a step; of none kind 255
abbrev pub parts_of_step : Option Step → StepParts
parts_of_step None = plain_parts 255 0 0
parts_of_step (Some (LinkUp l)) = plain_parts 0 l 0
parts_of_step (Some (LinkDown l)) = plain_parts 1 l 0
parts_of_step (Some (SetCost i q cost)) = record { addr = 0; cost = cost; subject = i; kind = 2; port = q; len = 0 }
parts_of_step (Some (Deliver i q)) = plain_parts 3 i q
parts_of_step (Some (Publish i)) = plain_parts 4 i 0
parts_of_step (Some (Release i)) = plain_parts 5 i 0
parts_of_step (Some (Attach i p cost)) = record { addr = p.addr; cost = cost; subject = i; kind = 6; port = 0; len = p.len }
parts_of_step (Some (Detach i p)) = record { addr = p.addr; cost = 0; subject = i; kind = 7; port = 0; len = p.len }
