use Rattle.std.proofs.Common.{rules}
use Rattle.release_gate.proofs.gate.Gate.release.Goals as goal

pub returns-then-self-eq0-clause-released : goal.returns-then-self-eq0-clause-released
returns-then-self-eq0-clause-released g c = search rules

pub returns-clause-released : goal.returns-clause-released
returns-clause-released g c = search rules
