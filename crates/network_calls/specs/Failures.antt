-- Why a call is refused, and the numbers by which C knows that.
use Rattle.std.specs.Prelude.{◌≡◌, ℕ, ◌⊎◌, Option, None, Some}
use Rattle.faults.specs.Numbers.{kind_number}
use Rattle.network_model.specs.{Kinds.network_kind, Kinds.refusal_kind, declared.network.NetworkFault.NetworkFault, declared.step.Refusal.Refusal}
use Rattle.timed_simulation.specs.Kinds.{time_kind}
use Rattle.c_interface.specs.Faults.{fault_number, IsDoneOrOutOfMemory}
use Rattle.network_calls.specs.declared.failure.Failure.{Failure}
use Rattle.network_calls.specs.declared.failure.Failure.TheVariants.{Given, BadLimits, HasClock, NoClock, NoRecord, Network, Refused, Time}

-- the number of the refusal of a step
abbrev pub refusal_number : Refusal → ℕ
refusal_number e = kind_number (refusal_kind e)

-- the number of the fault of a network
abbrev pub network_number : NetworkFault → ℕ
network_number f = kind_number (network_kind f)

-- the number by which C knows why a call is refused
abbrev pub failure_number : Failure → ℕ
failure_number (Given f) = fault_number f
failure_number BadLimits = 50
failure_number NoRecord = 53
failure_number HasClock = 56
failure_number NoClock = 57
failure_number (Time f) = kind_number (time_kind f)
failure_number (Network f) = network_number f
failure_number (Refused e) = refusal_number e

-- what a call answers, by what its tests find: that, or, where they find nothing, done or want of memory
abbrev pub IsStatusByFailure : Option Failure → ℕ → Type 0
IsStatusByFailure (Some f) status = status ≡ failure_number f
IsStatusByFailure None status = IsDoneOrOutOfMemory status

-- the same of a call that may need memory for this alone
abbrev pub IsStatusOnlyByFailure : Option Failure → Type 0 → ℕ → Type 0
IsStatusOnlyByFailure (Some f) Needs status = status ≡ failure_number f
IsStatusOnlyByFailure None Needs status = (status ≡ 0) ⊎ ((status ≡ 20) × Needs)

-- what a call answers that takes no memory, by what its tests find
abbrev pub status_by_failure : Option Failure → ℕ
status_by_failure (Some f) = failure_number f
status_by_failure None = 0
