-- Which faults a call of a pool answers.
use Rattle.std.specs.Prelude.{◌≡◌, ◌⊎◌, ⊤, List, Some}
use Rattle.network_model.specs.{declared.step.Refusal.Refusal, Kinds.refusal_kind}
use Rattle.publication.specs.declared.job.Job.{Job}
use Rattle.forwarder.specs.{Replies.Replied, Gathering.fault_of, Gathering.gather_kind}
use Rattle.worker_pool.specs.declared.fault.PoolFault.{PoolFault}
use Rattle.worker_pool.specs.declared.fault.PoolFault.TheVariants.{NoThread, Memory, Closed, Refused, Gather}
use Rattle.faults.specs.declared.kind.FaultKind.{FaultKind}

-- workers do not begin: there is no thread, or no memory
abbrev pub IsBeginFault : PoolFault → Type 0
IsBeginFault NoThread = ⊤
IsBeginFault (Memory _) = ⊤
IsBeginFault _ = ⊥

-- a job is not taken: there is no memory, or nobody takes it
abbrev pub IsInjectFault : PoolFault → Type 0
IsInjectFault (Memory _) = ⊤
IsInjectFault Closed = ⊤
IsInjectFault _ = ⊥

-- there are no replies: there is no memory for them, or a worker was refused memory or had no image
abbrev pub IsWorkFault : PoolFault → Type 0
IsWorkFault (Memory _) = ⊤
IsWorkFault (Refused r) = (r ≡ Refusal.NoMemory) ⊎ (r ≡ Refusal.NoImage)
IsWorkFault _ = ⊥

-- jobs are not answered: there are no replies, or some whose fault it is that they are not those to the jobs
abbrev pub IsDrainFault : {X : Type 0} → List (Job X) → PoolFault → Type 0
IsDrainFault jobs NoThread = ⊥
IsDrainFault jobs (Memory _) = ⊤
IsDrainFault jobs Closed = ⊥
IsDrainFault jobs (Refused r) = (r ≡ Refusal.NoMemory) ⊎ (r ≡ Refusal.NoImage)
IsDrainFault {X} jobs (Gather g) = (rs : List (Replied X)) × (fault_of jobs rs ≡ Some g)

-- as which number and name a fault is printed
abbrev pub pool_kind : PoolFault → FaultKind
pool_kind NoThread = FaultKind.NoThread
pool_kind (Memory _) = FaultKind.NoMemory
pool_kind Closed = FaultKind.Closed
pool_kind (Refused refusal) = refusal_kind refusal
pool_kind (Gather fault) = gather_kind fault
