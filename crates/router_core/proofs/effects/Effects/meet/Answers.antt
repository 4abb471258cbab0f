use Rattle.std.proofs.Common.{rules}
use Rattle.router_core.proofs.effects.Effects.meet.Goals as goal

pub returns-clause-control : goal.returns-clause-control
returns-clause-control g c = search rules
