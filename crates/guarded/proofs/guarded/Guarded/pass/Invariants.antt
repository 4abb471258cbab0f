use Rattle.std.proofs.Common.{◌≡◌, ◌+◌, vec_len}
use Rattle.guarded.specs.Shares.{IsHolder, owes}
use Rattle.guarded.proofs.guarded.Guarded.pass.Given as goal

abbrev pub invariant-loop : goal.invariant-loop
invariant-loop g l = (owes l.share + vec_len l.fn.errands ≡ owes l.fn.share + vec_len l.errands) × IsHolder l.fn.share l.share
