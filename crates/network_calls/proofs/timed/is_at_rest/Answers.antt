use Rattle.std.proofs.Common.{rules}
use Rattle.network_calls.proofs.timed.is_at_rest.Goals as goal

pub returns-then-is_at_rest : goal.returns-then-is_at_rest
returns-then-is_at_rest c = search rules

pub returns-else-is_at_rest : goal.returns-else-is_at_rest
returns-else-is_at_rest c = search rules
