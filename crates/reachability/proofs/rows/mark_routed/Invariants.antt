use Rattle.reachability.specs.{Marks.unmarked, Rounds.OnlyRouted}
use Rattle.reachability.proofs.rows.mark_routed.Given as goal

abbrev pub invariant-loop-prefix : goal.invariant-loop-prefix
invariant-loop-prefix g l = OnlyRouted l.world l.fn.prefix l.marks

abbrev pub decreases-loop-prefix : goal.decreases-loop-prefix
decreases-loop-prefix g l = unmarked l.marks
