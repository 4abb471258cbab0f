use Rattle.packet_queue.specs.Ends.{IsSameInjector}
use Rattle.fabric_tests.proofs.queues.fill.Given as goal

abbrev pub invariant-loop-number : goal.invariant-loop-number
invariant-loop-number g l = IsSameInjector l.initial.injector l.injector
