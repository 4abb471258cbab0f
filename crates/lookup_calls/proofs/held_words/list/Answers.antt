use Rattle.std.proofs.Common.{rules}
use Rattle.lookup_calls.proofs.held_words.list.Goals as goal

pub returns-clause-words : goal.returns-clause-words
returns-clause-words c = search rules
