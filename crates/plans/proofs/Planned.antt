-- The plan of a text.
use Rattle.texts.specs.Words.{Text}
use Rattle.script.specs.Reading.{Parts}
use Rattle.plans.specs.{declared.plan.Plan.Plan, Scenarios.IsScenario, Scenarios.IsPlanOf}

-- a scenario of a text, and its plan
abbrev pub IsPlanned : Text → Plan → Type 0
IsPlanned text plan = (parts : Parts) × IsScenario text parts × IsPlanOf parts plan
