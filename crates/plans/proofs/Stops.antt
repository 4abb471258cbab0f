-- Why reading a scenario stops.
use Rattle.std.proofs.Common.{◌≡◌, ◌≤◌, ◌⊎◌, inl, inr, Option, Some, None, Result, Ok, Err, IfErr, MatchOption, length, refl, sym, subst}
use Rattle.texts.specs.Words.{Text}
use Rattle.script.specs.{Reading.Parts, declared.place.Located.Located}
use Rattle.network_model.specs.Network.{network_fault, program_limits}
use Rattle.plans.specs.{declared.fault.Fault.Fault, Faults.IsWantOfMemory, Faults.most_bytes}
use Rattle.plans.specs.Scenarios.{IsRead, IsScenarioFault, StopsReading, first_fault, network_read}

-- where the fault of what was read comes first, reading stops for it
pub stops_reading : {T : Type 0} (r : Result T Fault) (text : Text) (parts : Parts) (stop : Option Located) → IsRead text parts stop
    → MatchOption (first_fault (network_fault program_limits (network_read parts)) stop) (IfErr r IsWantOfMemory) (λ fault. r ≡ Err fault)
    → IfErr r (λ e. IsWantOfMemory e ⊎ IsScenarioFault text e)
stops_reading {T} r text parts stop read first = by_fault (first_fault (network_fault program_limits (network_read parts)) stop) r refl first
  where
    by_fault : (o : Option Fault) (r : Result T Fault) → first_fault (network_fault program_limits (network_read parts)) stop ≡ o
        → MatchOption o (IfErr r IsWantOfMemory) (λ fault. r ≡ Err fault) → IfErr r (λ e. IsWantOfMemory e ⊎ IsScenarioFault text e)
    by_fault None (Ok x) is first = tt
    by_fault None (Err e) is first = inl first
    by_fault (Some fault) r is first = subst (λ q. IfErr q (λ e. IsWantOfMemory e ⊎ IsScenarioFault text e)) (sym first) (inr (inr (inr (parts, stop, read, is))))

-- of a text that is short enough
pub stops_short : (text : Text) (fault : Fault) → length text ≤ most_bytes → IsWantOfMemory fault ⊎ IsScenarioFault text fault → StopsReading text fault
stops_short text fault short (inl memory) = inr (inl memory)
stops_short text fault short (inr first) = inr (inr (short, first))
