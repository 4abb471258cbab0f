use Rattle.std.proofs.Common.{rules}
use Rattle.publication.proofs.edition.Edition.answer.Goals as goal

pub returns-clause-answer : goal.returns-clause-answer
returns-clause-answer g c = search rules
