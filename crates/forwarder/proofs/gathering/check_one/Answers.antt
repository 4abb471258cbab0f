use Rattle.std.proofs.Common.{rules}
use Rattle.forwarder.proofs.gathering.check_one.Goals as goal

pub returns-then-not-has_job : goal.returns-then-not-has_job
returns-then-not-has_job g c = search rules

pub returns-then-has_number : goal.returns-then-has_number
returns-then-has_number g c = search rules

pub returns : goal.returns
returns g c = search rules
