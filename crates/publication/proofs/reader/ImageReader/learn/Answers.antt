use Rattle.std.proofs.Common.{rules}
use Rattle.publication.proofs.reader.ImageReader.learn.Goals as goal

pub returns-clause-told : goal.returns-clause-told
returns-clause-told g c = search rules
