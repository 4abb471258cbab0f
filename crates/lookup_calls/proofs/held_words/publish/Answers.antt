use Rattle.std.proofs.Common.{rules}
use Rattle.lookup_calls.proofs.held_words.publish.Goals as goal

pub returns-clause-published : goal.returns-clause-published
returns-clause-published c = search rules
