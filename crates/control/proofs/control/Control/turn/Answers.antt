use Rattle.std.proofs.Common.{rules}
use Rattle.control.proofs.control.Control.turn.Goals as goal

pub returns-clause-turn : goal.returns-clause-turn
returns-clause-turn g c = search rules
