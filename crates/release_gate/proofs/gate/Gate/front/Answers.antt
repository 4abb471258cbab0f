use Rattle.std.proofs.Common.{rules}
use Rattle.release_gate.proofs.gate.Gate.front.Goals as goal

pub returns-else-self-gt0 : goal.returns-else-self-gt0
returns-else-self-gt0 g c = search rules
