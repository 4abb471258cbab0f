use Rattle.std.proofs.Common.{◌≡◌, ◌≤◌}
use Rattle.trials.proofs.load.Lane.run.Given as goal

-- at most one answer for each job so far
abbrev pub invariant-loop-number : goal.invariant-loop-number
invariant-loop-number g l = (l.answered ≤ l.number) × (l.self.answered ≡ l.initial.self.answered)
