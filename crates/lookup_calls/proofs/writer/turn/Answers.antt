use Rattle.std.proofs.Common.{rules}
use Rattle.lookup_calls.proofs.Beginnings.{last_more}
use Rattle.lookup_calls.proofs.writer.turn.Goals as goal

pub invariant_of-writer-2 : goal.invariant_of-writer-2
invariant_of-writer-2 c = search (rules, last_more)

pub returns : goal.returns
returns c = search rules
