use Rattle.std.proofs.Common.{rules}
use Rattle.release_gate.proofs.gate.Gate.ripen.Goals as goal

pub returns-clause-gate : goal.returns-clause-gate
returns-clause-gate g c = search rules
