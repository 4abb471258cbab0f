use Rattle.loop_freedom.proofs.FourFacts.{always_facts}
use Rattle.loop_freedom.proofs.facts.Goals as goal

pub returns : goal.returns
returns c = always_facts
