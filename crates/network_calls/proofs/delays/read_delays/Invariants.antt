use Rattle.std.proofs.Common.{◌≡◌, map, take}
use Rattle.network_calls.specs.Delays.{delays_of}
use Rattle.network_calls.proofs.delays.read_delays.Given as goal

abbrev pub invariant-loop-delay : goal.invariant-loop-delay
invariant-loop-delay l = l.read.items ≡ map delays_of (take l.delay-index l.delays)
