use Rattle.std.proofs.Common.{sym, subst, ◌≤◌, length}
use Rattle.network_model.specs.Network.{most_links}
use Rattle.world.specs.Parts.{network_of_parts}
use Rattle.world.proofs.Degrees.{few_links}
use Rattle.world.proofs.network.Network.links.Goals as goal

pub returns-clause-few : goal.returns-clause-few
returns-clause-few c = subst (λ xs. length xs ≤ most_links) (sym c.deref.ensures.value) (few_links (network_of_parts c.self.inside.routers c.self.inside.links.items c.self.inside.attachments.items) c.self.invariant.0.no_fault)
