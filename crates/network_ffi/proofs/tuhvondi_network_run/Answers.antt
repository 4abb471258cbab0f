use Rattle.std.proofs.Common.{rules}
use Rattle.network_ffi.proofs.tuhvondi_network_run.Goals as goal

pub returns-in_default-clause-some : goal.returns-in_default-clause-some
returns-in_default-clause-some c = search rules

pub returns-clause-some : goal.returns-clause-some
returns-clause-some c = search rules
