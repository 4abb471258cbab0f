-- Why a packet is not traced, as a refusal.
use Rattle.network_model.specs.declared.step.Refusal.{Refusal}
use Rattle.tracer.specs.declared.fault.TraceFault.{TraceFault}
use Rattle.tracer.specs.declared.fault.TraceFault.TheVariants.{UnknownRouter, NoMemory, Stale, NoImage}

-- the refusal of a look-up that a fault of a trace passes on
abbrev pub trace_refusal : TraceFault → Refusal
trace_refusal UnknownRouter = Refusal.UnknownRouter
trace_refusal NoMemory = Refusal.NoMemory
trace_refusal Stale = Refusal.Stale
trace_refusal NoImage = Refusal.NoImage
