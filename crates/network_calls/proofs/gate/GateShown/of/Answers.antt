use Rattle.std.proofs.Common.{rules}
use Rattle.network_calls.proofs.gate.GateShown.of.Goals as goal

pub returns : goal.returns
returns c = search rules
