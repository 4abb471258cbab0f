use Rattle.std.proofs.Common.{rules}
use Rattle.lookup_calls.proofs.images.image_of_words.Goals as goal

pub returns-clause-ok : goal.returns-clause-ok
returns-clause-ok c = search rules
