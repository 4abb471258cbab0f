use Rattle.std.proofs.Common.{◌<◌, ◌∙◌, slice_index, arith, sym, ap}
use Rattle.array_bitmap.proofs.lanes.begin_all.Goals as goal

pub returns-clause-lanes : goal.returns-clause-lanes
returns-clause-lanes g c = record {
  within = omega (arith, c.loop-i.invariant.count, c.requires.room);
  lane = λ k l. c.loop-i.invariant.lane k (omega (arith, l, c.loop-i-test.false));
  at = λ k l. omega (arith, l, c.loop-i.invariant.at k (omega (arith, l, c.loop-i-test.false)));
  addr = λ k l. let below : k < c.loop-i.i = omega (arith, l, c.loop-i-test.false) in
      c.loop-i.invariant.addr k below ∙ ap (λ n. slice_index c.args.addrs.now n) (sym (c.loop-i.invariant.at k below));
}
