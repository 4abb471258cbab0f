use Rattle.std.proofs.Common.{rules}
use Rattle.fabric.proofs.fabric.Fabric.next_step.Goals as goal

pub returns-in_err-step : goal.returns-in_err-step
returns-in_err-step g c = search rules

pub returns-then-awaits_writer : goal.returns-then-awaits_writer
returns-then-awaits_writer g c = search rules

pub returns : goal.returns
returns g c = search rules
