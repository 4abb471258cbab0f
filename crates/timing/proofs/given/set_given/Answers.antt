use Rattle.network_model.proofs.ListLaws.{length-changed_at}
use Rattle.std.proofs.Common.{ap, ◌∙◌, length}
use Rattle.timing.proofs.Listed.{given_set}
use Rattle.timing.proofs.given.set_given.Goals as goal

pub loop-one-preserved : goal.loop-one-preserved
loop-one-preserved g c = record {
  given = given_set c.args.given.now c.loop-one.one-index c.one-item.result c.loop-one.values.items c.set_one.new.values.items _ c.loop-one-test.true c.one-item.is c.loop-one.invariant.given c.set_one.ensures;
  count = ap length c.set_one.ensures ∙ length-changed_at _ _ c.loop-one.values.items ∙ c.loop-one.invariant.count;
}
