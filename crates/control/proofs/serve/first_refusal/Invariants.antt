use Rattle.guarded.specs.Shares.{AreUnrefusedBefore}
use Rattle.control.proofs.serve.first_refusal.Given as goal

-- no refusal so far
abbrev pub invariant-loop-place : goal.invariant-loop-place
invariant-loop-place g l = AreUnrefusedBefore l.place l.shares
