use Rattle.reachability.specs.Rounds.{AddsNone, KeepsReach}
use Rattle.reachability.proofs.Rounds.{IsRound}
use Rattle.reachability.proofs.links.spread.Given as goal

abbrev pub invariant-loop-place : goal.invariant-loop-place
invariant-loop-place g l = IsRound (KeepsReach l.world) (AddsNone l.world) l.fn.marks l.marks l.grown l.place
