-- What waits with workers who are there, and which fault it is if they do not work.
use Rattle.std.proofs.Common.{◌≡◌, List, [], Option, Some, ap, inl, inr}
use Rattle.std.specs.Option.{option_map_or}
use Rattle.faults.specs.declared.kind.FaultKind.{FaultKind}
use Rattle.network_model.specs.{declared.step.Refusal.Refusal, Kinds.refusal_kind}
use Rattle.worker_pool.specs.{declared.fault.PoolFault.PoolFault, Faults.IsBeginFault, Faults.IsInjectFault, Faults.pool_kind}
use Rattle.world.specs.Steps.{CanBeRefused}
use Rattle.interpreter.specs.Dispatching.{CannotInject, CannotWork}

-- what waits with workers who are there
pub waiting_in : {A B : Type 0} (f : A → List B) (o : Option A) (x : A) → Some x ≡ o → f x ≡ option_map_or f o []
waiting_in f o x is = ap (λ q. option_map_or f q []) is

pub no_job : (refusal : Option Refusal) (e : Refusal) (kind : FaultKind) → kind ≡ refusal_kind e → CanBeRefused refusal e → CannotInject refusal kind
no_job refusal e kind is why = inl (e, is, why)

pub not_begun : (e : PoolFault) (kind : FaultKind) → kind ≡ pool_kind e → IsBeginFault e → CannotWork kind
not_begun e kind is why = (e, is, inl why)

-- they did not take a job
pub not_taken : (refusal : Option Refusal) (e : PoolFault) (kind : FaultKind) → kind ≡ pool_kind e → IsInjectFault e → CannotInject refusal kind
not_taken refusal e kind is why = inr (e, is, inr why)
