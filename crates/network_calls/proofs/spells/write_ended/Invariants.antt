use Rattle.std.proofs.Common.{drop}
use Rattle.network_calls.specs.Spells.{ended_shown}
use Rattle.network_calls.proofs.Items.{AreFirst}
use Rattle.network_calls.proofs.spells.write_ended.Given as goal

abbrev pub invariant-loop-place : goal.invariant-loop-place
invariant-loop-place l = AreFirst ended_shown (drop l.from l.ended) l.fn.spells l.spells l.place
