use Rattle.std.proofs.Common.{inl, inr, ◌+◌, refl, arith}
use Rattle.array_bitmap.specs.Image.{cells_of}
use Rattle.array_bitmap.proofs.LanesDown.{all_done}
use Rattle.array_bitmap.proofs.lanes.words_all.Goals as goal

pub loop-level-init : goal.loop-level-init
loop-level-init g c = record {
  lanes = c.begin_all.ensures.lanes;
  few = c.requires.few;
  count = refl;
  words = refl;
  cared = λ a l. inr (omega (arith, c.requires.sound.cells.four_sizes), (a, l, c.begin_all.ensures.in_order a l));
}

pub returns-then-live-eq0-clause-done : goal.returns-then-live-eq0-clause-done
returns-then-live-eq0-clause-done g c = λ a l.
    all_done (cells_of c.args.tree.now) (c.loop-level.level + 1) c.args.addrs.now c.go_down-live.new.lanes c.go_down-live.result c.go_down-live.new.words a (inl c.if-live-eq0.true) (c.go_down-live.ensures.cared a l)

pub returns-clause-done : goal.returns-clause-done
returns-clause-done g c = λ a l.
    all_done (cells_of c.args.tree.now) c.loop-level.level c.args.addrs.now c.loop-level.lanes c.loop-level.live c.loop-level.words a (inr (omega (arith, c.loop-level-test.false))) (c.loop-level.invariant.cared a l)
