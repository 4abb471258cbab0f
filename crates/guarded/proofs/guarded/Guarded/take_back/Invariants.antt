use Rattle.std.proofs.Common.{◌≡◌, ◌+◌, vec_len}
use Rattle.guarded.specs.Shares.{IsHolder, owes}
use Rattle.guarded.proofs.guarded.Guarded.take_back.Given as goal

abbrev pub invariant-loop-errand : goal.invariant-loop-errand
invariant-loop-errand g l = (owes l.share + vec_len l.fn.errands ≡ owes l.fn.share + vec_len l.errands) × IsHolder l.fn.share l.share

abbrev pub decreases-loop-errand : goal.decreases-loop-errand
decreases-loop-errand g l = vec_len l.errands
