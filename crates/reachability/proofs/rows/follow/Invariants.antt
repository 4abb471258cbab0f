use Rattle.reachability.specs.Rounds.{LeavesRow, OnlyRouted}
use Rattle.reachability.proofs.Rounds.{IsRound}
use Rattle.reachability.proofs.rows.follow.Given as goal

abbrev pub invariant-loop-place : goal.invariant-loop-place
invariant-loop-place g l = IsRound (λ old new. OnlyRouted l.world l.prefix old → OnlyRouted l.world l.prefix new) (LeavesRow l.world l.prefix) l.fn.marks l.marks l.grown l.place
