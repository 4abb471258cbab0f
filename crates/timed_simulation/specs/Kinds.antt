-- As which number and name a fault of simulated time is printed.
use Rattle.faults.specs.declared.kind.FaultKind.{FaultKind}
use Rattle.network_model.specs.Kinds.{refusal_kind}
use Rattle.timed_simulation.specs.declared.fault.TimeFault.{TimeFault}

-- its kind: that of the step which is refused, or its own
abbrev pub time_kind : TimeFault → FaultKind
time_kind TimeFault.PastMoment = FaultKind.PastMoment
time_kind TimeFault.TimeSpent = FaultKind.TimeSpent
time_kind (TimeFault.Refused refusal) = refusal_kind refusal
