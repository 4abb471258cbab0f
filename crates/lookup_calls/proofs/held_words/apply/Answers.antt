use Rattle.std.proofs.Common.{rules}
use Rattle.lookup_calls.proofs.held_words.apply.Goals as goal

pub returns-clause-patched : goal.returns-clause-patched
returns-clause-patched c = search rules
