use Rattle.std.proofs.Common.{rules}
use Rattle.reachability.proofs.OverLinks.{none_past}
use Rattle.reachability.proofs.links.mark_attached.Goals as goal

pub returns : goal.returns
returns g c = none_past c.args.world.now c.args.prefix c.loop-place.marks c.requires.joined (search rules) (λ k below. c.loop-place.invariant k (search rules))
