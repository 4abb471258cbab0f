use Rattle.std.proofs.Common.{rules}
use Rattle.release_gate.proofs.gate.Gate.reserve.Goals as goal

pub returns-in_err-reserve-clause-room : goal.returns-in_err-reserve-clause-room
returns-in_err-reserve-clause-room g c = search rules

pub returns-clause-room : goal.returns-clause-room
returns-clause-room g c = search rules
