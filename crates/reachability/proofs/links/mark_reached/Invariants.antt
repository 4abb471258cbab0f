use Rattle.reachability.specs.{Marks.unmarked, Rounds.AllAttached, Rounds.OnlyReached}
use Rattle.reachability.proofs.links.mark_reached.Given as goal

abbrev pub invariant-loop : goal.invariant-loop
invariant-loop g l = record {
  only : OnlyReached l.world l.fn.prefix l.marks;
  attached : AllAttached l.world l.fn.prefix l.marks;
}

abbrev pub decreases-loop : goal.decreases-loop
decreases-loop g l = unmarked l.marks
