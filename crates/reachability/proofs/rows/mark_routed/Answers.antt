use Rattle.std.proofs.Common.{sym, ◌∙◌}
use Rattle.std.proofs.lemmas.Bool.{false≢true}
use Rattle.reachability.proofs.ByRows.{all_routed}
use Rattle.reachability.proofs.rows.mark_routed.Goals as goal

pub loop-prefix-init : goal.loop-prefix-init
loop-prefix-init g c = λ i is. absurd (false≢true (sym (c.clear.ensures i) ∙ is))

pub loop-prefix-preserved : goal.loop-prefix-preserved
loop-prefix-preserved g c = c.follow.ensures.only c.loop-prefix.invariant

pub returns : goal.returns
returns g c = λ i. (c.follow.ensures.only c.loop-prefix.invariant i, all_routed c.args.world.now c.args.prefix c.follow.new.marks (c.follow.ensures.closed c.loop-prefix-test.false) i)
