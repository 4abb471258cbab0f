use Rattle.std.proofs.Common.{rules}
use Rattle.lookup_calls.proofs.reader.words_by.Goals as goal

pub returns-clause-words : goal.returns-clause-words
returns-clause-words c = search rules
