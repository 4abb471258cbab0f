-- What a call answers that gives a change.
use Rattle.std.proofs.Common.{◌≡◌, Bool, true, false, Result, Ok, Err, Some, None, if◌then◌else◌, MatchBool, IsOkUnless, inl, inr, refl, ap}
use Rattle.network_model.specs.declared.step.Refusal.{Refusal}
use Rattle.timed_simulation.specs.{declared.fault.TimeFault.TimeFault, declared.fault.TimeFault.TheVariants.PastMoment, declared.fault.TimeFault.TheVariants.Refused}
use Rattle.network_calls.specs.{Failures.failure_number, Failures.IsStatusByFailure, declared.failure.Failure.TheVariants.Time}

-- by whether the moment is past
abbrev pub IsTakenOr : Bool → Result (Unit {0}) TimeFault → Type 0
IsTakenOr past r = MatchBool past (r ≡ Err PastMoment) (IsOkUnless r (Refused Refusal.NoMemory))

pub taken : (past : Bool) → IsTakenOr past (Ok (tt {0})) → IsStatusByFailure (if past then Some (Time PastMoment) else None) 0
taken true h = absurd (let no : ◌≡◌ {A = Result (Unit {0}) TimeFault} (Ok (tt {0})) (Err PastMoment) = h in cc)
taken false h = inl refl

pub not_taken : (past : Bool) (f : TimeFault) → IsTakenOr past (Err f) → IsStatusByFailure (if past then Some (Time PastMoment) else None) (failure_number (Time f))
not_taken true f h = let inner : ◌≡◌ {A = Result (Unit {0}) TimeFault} (Err f) (Err PastMoment) = h in (let same : f ≡ PastMoment = cc in ap (λ x. failure_number (Time x)) same)
not_taken false f h = inr (ap (λ x. failure_number (Time x)) h)
