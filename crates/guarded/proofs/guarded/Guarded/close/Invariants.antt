use Rattle.std.proofs.Common.{◌≡◌, ◌+◌, ◌*◌, ◌^◌, sum_by, vec_len}
use Rattle.guarded.specs.Shares.{owes}
use Rattle.guarded.proofs.guarded.Guarded.close.Given as goal

-- what was merged, and the shares that are left, make all
abbrev pub invariant-loop-share : goal.invariant-loop-share
invariant-loop-share g l =
    (l.all_high.parts + vec_len l.shares ≡ g.N.ControlName.shares)
    × (l.all_low.parts + vec_len l.shares ≡ g.N.ControlName.shares)
    × (l.all_out.parts + vec_len l.shares ≡ g.N.ControlName.shares)
    × (l.all_out.amount + sum_by owes l.shares.items ≡ sum_by owes l.fn.shares.items)
    × ((l.all_high.amount * 2 ^ 64 + l.all_low.amount) + sum_by (λ s. s.sum) l.shares.items ≡ sum_by (λ s. s.sum) l.fn.shares.items)

abbrev pub decreases-loop-share : goal.decreases-loop-share
decreases-loop-share g l = vec_len l.shares
