use Rattle.std.proofs.Common.{nat_eq, ap, ◌∙◌}
use Rattle.network_model.specs.Turns.{is_settled}
use Rattle.world.proofs.Rest.{settled}
use Rattle.world.proofs.watched.WatchedWorld.is_settled.Goals as goal

pub returns : goal.returns
returns g c = ap (λ n. nat_eq n 0) c.self.invariant.counts ∙ settled c.self.inside.world ∙ ap is_settled c.self.view_is
