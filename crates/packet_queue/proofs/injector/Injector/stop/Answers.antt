use Rattle.std.proofs.Common.{rules}
use Rattle.packet_queue.proofs.injector.Injector.stop.Goals as goal

pub returns-then-not-stop_one-clause-put : goal.returns-then-not-stop_one-clause-put
returns-then-not-stop_one-clause-put g c = search rules

pub returns-clause-put : goal.returns-clause-put
returns-clause-put g c = search rules
