use Rattle.std.proofs.Common.{rules}
use Rattle.std.proofs.lemmas.List.Elements.{filter_from_retain}
use Rattle.timed_simulation.specs.declared.links.Arrival.{Arrival}
use Rattle.timed_simulation.proofs.links.drop_messages.Goals as goal

pub returns-clause-items : goal.returns-clause-items
returns-clause-items g c = filter_from_retain _ (λ (x : Arrival). x.notice) (λ p x b q k. search rules) _ _ _ c.retain.ensures.filtered
