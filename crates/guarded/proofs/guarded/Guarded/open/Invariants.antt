use Rattle.std.proofs.Common.{◌≡◌, ◌+◌, ◌*◌, ◌^◌, ◌≤◌, ◌==◌, if◌then◌else◌, vec_len, vec_capacity}
use Rattle.guarded.specs.Shares.{AreNew}
use Rattle.guarded.proofs.guarded.Guarded.open.Given as goal

-- what is left of both ledgers, and the shares so far
abbrev pub invariant-loop-number : goal.invariant-loop-number
invariant-loop-number g l =
    (l.high_rest.parts + l.number ≡ l.shares)
    × (l.low_rest.parts + l.number ≡ l.shares)
    × (l.out_rest.parts + l.number ≡ l.shares)
    × (l.out_rest.amount ≡ 0)
    × (l.high_rest.amount ≡ l.high_left)
    × (l.low_rest.amount ≡ l.low_left)
    × (l.sum_left ≡ l.high_left * 2 ^ 64 + l.low_left)
    × (l.sum_left ≡ (if l.number == 0 then l.initial.sum_left else 0))
    × (vec_len l.all ≡ l.number)
    × (l.shares ≤ vec_capacity l.all)
    × AreNew l.initial.sum_left l.all.items
