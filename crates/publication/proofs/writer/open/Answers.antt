use Rattle.std.proofs.Common.{◌∙◌}
use Rattle.publication.proofs.writer.open.Goals as goal

pub returns-in-Ok-clause-readers : goal.returns-in-Ok-clause-readers
returns-in-Ok-clause-readers g c = λ k d less. c.in-Ok.ensures.1 k d less ∙ c.with_name-ledger.ensures.told
