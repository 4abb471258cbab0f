use Rattle.std.proofs.Common.{rules}
use Rattle.publication.proofs.press.Press.publish.Goals as goal

pub returns-clause-shown : goal.returns-clause-shown
returns-clause-shown g c = search rules
