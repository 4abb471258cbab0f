-- How runs in simulated time end.
use Rattle.std.proofs.Common.{◌≡◌, ◌≤◌, ◌⊎◌, inr, List, Option, length, ap, subst, ◌∙◌}
use Rattle.network_model.specs.World.{Network}
use Rattle.texts.specs.Words.{Text}
use Rattle.plans.specs.{declared.fault.Fault.Fault, declared.plan.Plan.Plan, Faults.OfBytes, Faults.most_bytes, Scenarios.network_read}
use Rattle.plans.proofs.Planned.{IsPlanned}
use Rattle.timing.specs.{declared.times.Times.Times, Runs.IsOfEvents, Times.IsOfTimes, Times.IsTimes, Ends.IsTimedToEnd, Ends.RunsTimes, Ends.StopsTime}

-- the document says the times of the scenario's network
pub says_of : (text lines given : Text) (plan : Plan) (names : List Text) (times : Times) (planned : IsPlanned text plan) → names ≡ plan.directory.names → given ≡ lines
    → IsTimes names plan.network given times → IsTimes planned.0.names (network_read planned.0) lines times
says_of text lines given plan names times planned names_are same says =
    subst (λ ls. IsTimes planned.0.names (network_read planned.0) ls times) same
    (subst (λ (n : Network). IsTimes planned.0.names n given times) planned.2.network
    (subst (λ ns. IsTimes ns plan.network given times) (names_are ∙ ap (λ d. d.names) planned.2.directory) says))

-- the run is one of the scenario's network
pub timed_to_end : (text lines given : Text) (plan : Plan) (names : List Text) (times : Times) → length text ≤ most_bytes → (planned : IsPlanned text plan) → names ≡ plan.directory.names → given ≡ lines
    → IsTimes names plan.network given times → RunsTimes plan.network times → IsTimedToEnd text lines
timed_to_end text lines given plan names times short planned names_are same says runs = record {
  short = short;
  parts = planned.0;
  scenario = planned.1;
  times = times;
  says = says_of text lines given plan names times planned names_are same says;
  runs = subst (λ (n : Network). RunsTimes n times) planned.2.network runs;
}

-- a scenario without faults
pub stops_after : (text : Text) (times : Option Text) (plan : Plan) (fault : Fault) → length text ≤ most_bytes → IsPlanned text plan
    → OfBytes times (λ lines. IsOfTimes lines fault) ⊎ IsOfEvents fault → StopsTime text times fault
stops_after text times plan fault short planned why = inr (short, planned.0, planned.1, why)
