use Rattle.std.proofs.Common.{◌≡◌}
use Rattle.trials.proofs.load.table.Given as goal

-- nothing was published
abbrev pub invariant-loop-number : goal.invariant-loop-number
invariant-loop-number l = l.image.generation ≡ 0
