use Rattle.network_calls.specs.Calls.{IsRanTo}
use Rattle.network_calls.proofs.stepped.run.Given as goal

abbrev pub invariant-loop-place : goal.invariant-loop-place
invariant-loop-place l = IsRanTo l.parts l.fn.simulation l.simulation l.place
