use Rattle.std.proofs.Common.{rules}
use Rattle.lookup_calls.proofs.held_words.make.Goals as goal

pub returns-clause-made : goal.returns-clause-made
returns-clause-made c = search rules
