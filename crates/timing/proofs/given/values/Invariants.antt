use Rattle.std.proofs.Common.{◌≡◌, replicate}
use Rattle.timing.proofs.given.values.Given as goal

abbrev pub invariant-loop-made : goal.invariant-loop-made
invariant-loop-made g l = l.values.items ≡ replicate l.made l.fn.other
