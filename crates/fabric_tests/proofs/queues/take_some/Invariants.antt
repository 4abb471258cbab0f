use Rattle.std.proofs.Common.{◌≡◌}
use Rattle.packet_queue.specs.Ends.{takes_from}
use Rattle.fabric_tests.proofs.queues.take_some.Given as goal

abbrev pub invariant-loop : goal.invariant-loop
invariant-loop g l = takes_from l.taker ≡ takes_from l.initial.taker
