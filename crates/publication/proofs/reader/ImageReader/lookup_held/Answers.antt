use Rattle.std.proofs.Common.{subst, rules}
use Rattle.publication.specs.Lists.{Begins}
use Rattle.publication.proofs.{Beginnings.begins_self, Ruling.stays_on}
use Rattle.publication.proofs.reader.ImageReader.lookup_held.Goals as goal

pub enter_as-requires : goal.enter_as-requires
enter_as-requires g c x = stays_on g.B.FabricName.openings _ _ x.image x.told

pub returns-then-not-goes_on-clause-later : goal.returns-then-not-goes_on-clause-later
returns-then-not-goes_on-clause-later g c = subst (λ k. Begins k c.self.inside.told) c.self.view_is (begins_self c.self.inside.told)

pub returns-in_default-clause-answer : goal.returns-in_default-clause-answer
returns-in_default-clause-answer g c = search rules

pub returns-then-not-goes_on-clause-answer : goal.returns-then-not-goes_on-clause-answer
returns-then-not-goes_on-clause-answer g c = search rules

pub returns-else-not-goes_on-clause-answer : goal.returns-else-not-goes_on-clause-answer
returns-else-not-goes_on-clause-answer g c = search rules

pub returns-in-Err-clause-answer : goal.returns-in-Err-clause-answer
returns-in-Err-clause-answer g c = search rules
