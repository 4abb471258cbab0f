use Rattle.machine_laws.proofs.MachineLaws.{machine_laws}
use Rattle.loop_freedom.proofs.Walks.{always_published, always_mixed}
use Rattle.loop_freedom.proofs.no_loop.Goals as goal

pub returns : goal.returns
returns c = record { published = always_published machine_laws; mixed = always_mixed machine_laws }
