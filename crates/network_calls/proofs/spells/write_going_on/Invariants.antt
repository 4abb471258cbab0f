use Rattle.network_calls.proofs.Going.{AreWritten}
use Rattle.network_calls.proofs.spells.write_going_on.Given as goal

abbrev pub invariant-loop-place : goal.invariant-loop-place
invariant-loop-place l = AreWritten l.all l.fn.spells l.spells l.place l.written
