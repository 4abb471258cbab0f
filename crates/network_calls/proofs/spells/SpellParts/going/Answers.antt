use Rattle.std.proofs.Common.{rules}
use Rattle.network_calls.proofs.spells.SpellParts.going.Goals as goal

pub returns-in_err-from-clause-some : goal.returns-in_err-from-clause-some
returns-in_err-from-clause-some c = search rules

pub returns-clause-some : goal.returns-clause-some
returns-clause-some c = search rules
