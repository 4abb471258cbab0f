use Rattle.timing.proofs.Tallies.{counted_at}
use Rattle.timing.proofs.tally.count_spells.Goals as goal

pub loop-spell-preserved : goal.loop-spell-preserved
loop-spell-preserved c = counted_at c.args.span c.args.spells.now c.loop-spell.spell-index c.spell-item.result c.loop-spell.tally c.with_one-tally.result _ c.loop-spell-test.true c.spell-item.is c.loop-spell.invariant c.with_one-tally.ensures
