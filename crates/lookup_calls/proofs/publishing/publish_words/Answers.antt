use Rattle.std.proofs.Common.{rules}
use Rattle.lookup_calls.proofs.publishing.publish_words.Goals as goal

pub returns-clause-ok : goal.returns-clause-ok
returns-clause-ok c = search rules
