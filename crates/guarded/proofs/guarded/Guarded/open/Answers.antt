use Rattle.std.proofs.Common.{rules, ap, ◌≡◌, ◌∙◌, length, arith}
use Rattle.guarded.proofs.Shares.{new_more}
use Rattle.guarded.proofs.guarded.Guarded.open.Goals as goal

pub loop-number-preserved : goal.loop-number-preserved
loop-number-preserved g c =
    let v = c.loop-number.invariant in
    let many : length c.loop-number.all.items ≡ c.loop-number.number = search rules in (
      omega arith,
      omega arith,
      omega arith,
      omega arith,
      omega arith,
      omega arith,
      omega arith,
      search rules,
      search rules,
      search rules,
      new_more c.sum-sum.result c.loop-number.all.items c.push_reserved.new.self.items c.new.result c.loop-number.number v.10 c.push_reserved.ensures.items many c.new.ensures.0 (c.new.ensures.1 ∙ v.7) (ap (λ o. o.amount) c.new.ensures.2 ∙ c.split_off-out.ensures.amount),
    )
