use Rattle.std.proofs.Common.{rules}
use Rattle.fabric.proofs.fabric.ask.Goals as goal

pub returns-in_err-answer-clause-stale : goal.returns-in_err-answer-clause-stale
returns-in_err-answer-clause-stale g c = search rules

pub returns-then-not-is_at-clause-stale : goal.returns-then-not-is_at-clause-stale
returns-then-not-is_at-clause-stale g c = search rules

pub returns-clause-stale : goal.returns-clause-stale
returns-clause-stale g c = search rules
